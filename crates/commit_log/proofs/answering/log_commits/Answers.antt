use Rattle.std.proofs.Common.{◌∙◌, refl, ap}
use Rattle.command_line.specs.Exits.{refused}
use Rattle.commit_log.proofs.Replied.{answered, unanswered}
use Rattle.commit_log.proofs.answering.log_commits.Goals as goal

pub returns-in-Ok-clause-answer : goal.returns-in-Ok-clause-answer
returns-in-Ok-clause-answer g c = record {
  old = c.in-Some.reader;
  new = c.log_listing.new.reader;
  was = c.in-Some.is;
  is = refl;
  holds = answered g.R.Read.remaining g.W.Write.contents c.in-Some.reader c.log_listing.new.reader c.args.writer.now _ c.args.asked.now c.in-Ok.status
      c.number.result c.number.ensures c.in-Ok.ensures;
}

pub returns-in-Err-clause-answer : goal.returns-in-Err-clause-answer
returns-in-Err-clause-answer g c =
    unanswered g.R.Read.remaining g.W.Write.contents c.in-Some.reader c.log_listing.new.reader c.args.writer.now c.log_listing.new.writer
    c.args.asked.now _ c.args.reader.now _ c.in-Err.fault c.refused-in-Err.result (c.refused-in-Err.ensures ∙ ap refused c.from.ensures)
    c.in-Some.is refl c.in-Err.ensures
