use Rattle.std.proofs.Common.{◌≡◌, take}
use Rattle.std.proofs.lemmas.Result.{err_from_is_err_and}
use Rattle.counted_io.proofs.Replied.{not_answered, replied, replied_in_part}
use Rattle.answers.specs.Answer.{most_taken}
use Rattle.checker.specs.Checked.{IsCheck, IsSomeCheck}
use Rattle.checker.proofs.WholeInputs.{check_of_taken}
use Rattle.checker.proofs.checking.answered.Goals as goal

pub returns-clause-ok : goal.returns-clause-ok
returns-clause-ok g c =
    let taken = c.in_ok-listing in
    let told = c.in_ok-status in
    let file = c.args.asked.now.file.now in
    let all = c.args.asked.now.all in
    replied g.R.Read.remaining g.W.Write.contents most_taken _ _ _ _ (λ input. taken.listing.items ≡ take most_taken input)
    (IsCheck file all told.status) told.text.items _ taken.ensures.read taken.ensures.ok
    (check_of_taken file all taken.listing.items _ told.text.items told.status c.as_slice.ensures.value told.ensures.ok)
    c.as_slice-2.ensures.value c.in_ok-write_whole.ensures.ok c.in_ok-write_whole.ensures.quiet

pub returns-in_err-status-clause-err : goal.returns-in_err-status-clause-err
returns-in_err-status-clause-err g c =
    let left = c.from_residual-in_err-status in
    let p = err_from_is_err_and left.result left.ensures.1 in
    rw (p.1, p.2) (not_answered g.R.Read.remaining most_taken _ _ c.args.writer.now c.in_ok-listing.ensures.read)

pub returns-in_err-write_whole-clause-err : goal.returns-in_err-write_whole-clause-err
returns-in_err-write_whole-clause-err g c =
    let taken = c.in_ok-listing in
    let told = c.in_ok-status in
    let file = c.args.asked.now.file.now in
    let all = c.args.asked.now.all in
    let left = c.from_residual-in_err-write_whole in
    let p = err_from_is_err_and left.result left.ensures.1 in
    rw (p.1, p.2) (replied_in_part g.R.Read.remaining g.W.Write.contents most_taken _ _ _ _ (λ input. taken.listing.items ≡ take most_taken input)
    (IsSomeCheck file all) told.text.items _ taken.ensures.read taken.ensures.ok
    (λ input is. (
      told.status,
      check_of_taken file all taken.listing.items _ told.text.items told.status c.as_slice.ensures.value told.ensures.ok input is,
    ))
    c.as_slice-2.ensures.value c.in_err-write_whole.ensures.err c.in_err-write_whole.ensures.failed)
