use Rattle.std.proofs.Common.{IfSome, subst}
use Rattle.std.proofs.lemmas.Result.{err_from_is_err_and}
use Rattle.isa.specs.Listing.{listing}
use Rattle.counted_io.specs.Counted.{known_by}
use Rattle.answers.specs.Parsed.{IsParsed}
use Rattle.commit_log.proofs.Replied.{broken}
use Rattle.commit_log.proofs.answering.log_listing.Goals as goal

pub returns-in_err-log_run-in-Ok : goal.returns-in_err-log_run-in-Ok
returns-in_err-log_run-in-Ok g c =
    let left = c.from_residual-in_err-log_run-in-Ok in
    let p = err_from_is_err_and left.result left.ensures.1 in
    rw (p.1, p.2) (broken g.R.Read.remaining g.W.Write.contents c.args.reader.now c.read_listing.new.reader c.args.writer.now c.log_run.new.writer
    c.args.asked.now c.in-Ok.program c.in_err-log_run-in-Ok.field-0.0 c.in_ok-program.ensures.read
    (subst (λ found. IfSome (known_by g.R.Read.remaining c.args.reader.now) (λ input. IsParsed found (listing input))) c.in-Ok.is c.in_ok-program.ensures.ok)
    c.in_err-log_run-in-Ok.ensures)
