use Rattle.std.proofs.Common.{refl, subst, sym}
use Rattle.counted_io.specs.Counted.{Gives}
use Rattle.on_threads.specs.Runs.{WasWritten}
use Rattle.on_threads.proofs.AsAlone.{reader_as_alone}
use Rattle.on_threads.proofs.Ended.{with_answer, with_refusal}
use Rattle.command.proofs.running.go.Goals as goal

pub returns-in-Ok-clause-answer : goal.returns-in-Ok-clause-answer
returns-in-Ok-clause-answer g c =
    with_answer g.R.Read.remaining g.W.Write.contents c.in-Some.reader c.answered.new.reader c.args.writer.now c.answered.new.writer
    c.args.asked.now _ _ c.in-Ok.exit c.in-Some.is refl (subst WasWritten (sym c.in-Ok.ensures.line) tt) c.in-Ok.ensures.ok

pub returns-in-Ok-clause-same : goal.returns-in-Ok-clause-same
returns-in-Ok-clause-same g c = λ written ended.
    reader_as_alone g.R.Read.remaining c.args.reader.now c.in-Some.reader c.in-Some.is c.args.asked.now c.in-Ok.exit
    (Gives g.W.Write.contents c.args.writer.now c.answered.new.writer) ended c.in-Ok.ensures.ok.text

pub returns-in-Err-clause-answer : goal.returns-in-Err-clause-answer
returns-in-Err-clause-answer g c =
    with_refusal g.R.Read.remaining g.W.Write.contents c.in-Some.reader c.answered.new.reader c.args.writer.now c.answered.new.writer
    c.args.asked.now _ _ c.refused-in-Err.result c.in-Some.is refl c.in-Err.refusal c.refused-in-Err.ensures c.in-Err.ensures.err
