use Rattle.std.proofs.Common.{◌∙◌}
use Rattle.std.proofs.lemmas.Result.{err_from_is_err_and}
use Rattle.isa.specs.Listing.{listing}
use Rattle.counted_io.proofs.Replied.{not_answered, replied}
use Rattle.answers.specs.Answer.{IsAnswerAlone, most_taken}
use Rattle.answers.specs.Parsed.{IsParsed}
use Rattle.bench.proofs.bytes.alone.Goals as goal

pub returns-clause-ok : goal.returns-clause-ok
returns-clause-ok g c =
    let found = c.in_ok-found in
    replied g.R.Read.remaining g.W.Write.contents most_taken _ _ _ _ (λ input. IsParsed found.found (listing input))
    (IsAnswerAlone c.args.config.now.limit c.in_ok-status.status) _ _ found.ensures.read found.ensures.ok c.in_ok-status.ensures
    (c.as_bytes.ensures.value ∙ c.as_str.ensures.value) c.in_ok-write_whole.ensures.ok c.in_ok-write_whole.ensures.quiet

pub returns-in_err-status-clause-err : goal.returns-in_err-status-clause-err
returns-in_err-status-clause-err g c =
    let left = c.from_residual-in_err-status in
    let p = err_from_is_err_and left.result left.ensures.1 in
    rw (p.1, p.2) (not_answered g.R.Read.remaining most_taken _ _ c.args.writer.now c.in_ok-found.ensures.read)
