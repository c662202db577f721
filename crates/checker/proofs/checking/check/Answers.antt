use Rattle.std.proofs.Common.{◌∙◌, refl, ap}
use Rattle.command_line.specs.Exits.{refused}
use Rattle.checker.proofs.Ended.{one_thread, unanswered}
use Rattle.checker.proofs.checking.check.Goals as goal

pub returns-in-Ok-clause-answer : goal.returns-in-Ok-clause-answer
returns-in-Ok-clause-answer g c =
    record { old = c.in-Some.reader; new = c.answered.new.reader; was = c.in-Some.is; is = refl; holds = c.in-Ok.ensures.ok }

pub returns-in-Err-clause-answer : goal.returns-in-Err-clause-answer
returns-in-Err-clause-answer g c =
    unanswered g.R.Read.remaining g.W.Write.contents c.in-Some.reader c.answered.new.reader c.args.writer.now c.answered.new.writer
    c.args.asked.now.file.now c.args.asked.now.all c.args.reader.now _ c.in-Err.fault c.refused-in-Err.result
    (c.refused-in-Err.ensures ∙ ap refused c.from.ensures) c.in-Some.is refl c.in-Err.ensures.err

pub returns-in-Err-clause-exit : goal.returns-in-Err-clause-exit
returns-in-Err-clause-exit g c =
    one_thread c.in-Err.fault c.refused-in-Err.result (c.refused-in-Err.ensures ∙ ap refused c.from.ensures)
