use Rattle.std.proofs.Common.{◌≡◌, ◌∙◌, rules, take, string_bytes}
use Rattle.std.proofs.lemmas.Result.{err_from_is_err_and}
use Rattle.counted_io.proofs.Replied.{replied, replied_in_part}
use Rattle.counted_io.specs.Replies.{HasNoReply}
use Rattle.listing.specs.Listings.{IsListingOf, most_of_file}
use Rattle.listing.proofs.Whole.{unlisted, whole_taken}
use Rattle.listing.proofs.converting.convert.Goals as goal

pub returns-clause-ok : goal.returns-clause-ok
returns-clause-ok g c =
    let file = c.in_ok-file in
    let text = string_bytes c.in_ok-text.text in
    replied g.R.Read.remaining g.W.Write.contents most_of_file _ _ _ _ (λ input. file.file.items ≡ take most_of_file input) IsListingOf
    text _ file.ensures.read file.ensures.ok (whole_taken file.file.items _ text c.as_slice.ensures.value c.in_ok-text.ensures.ok)
    (c.as_bytes.ensures.value ∙ c.as_str.ensures.value) c.in_ok-write_whole.ensures.ok c.in_ok-write_whole.ensures.quiet

pub returns-in_err-write_whole-clause-err : goal.returns-in_err-write_whole-clause-err
returns-in_err-write_whole-clause-err g c =
    let file = c.in_ok-file in
    let text = string_bytes c.in_ok-text.text in
    let left = c.from_residual-in_err-write_whole in
    let p = err_from_is_err_and left.result left.ensures.1 in
    rw (p.1, p.2) (replied_in_part g.R.Read.remaining g.W.Write.contents most_of_file _ _ _ _
    (λ input. file.file.items ≡ take most_of_file input) IsListingOf
    text _ file.ensures.read file.ensures.ok (whole_taken file.file.items _ text c.as_slice.ensures.value c.in_ok-text.ensures.ok)
    (c.as_bytes.ensures.value ∙ c.as_str.ensures.value) c.in_err-write_whole.ensures.err c.in_err-write_whole.ensures.failed)

pub returns-in_err-text-clause-err : goal.returns-in_err-text-clause-err
returns-in_err-text-clause-err g c =
    let file = c.in_ok-file in
    let reader = c.args.reader.now in
    let writer = c.args.writer.now in
    let none : HasNoReply 0 g.R.Read.remaining most_of_file reader c.read_up_to.new.reader writer writer = search rules in
    let left = c.from_residual-in_err-text in
    let p = err_from_is_err_and left.result left.ensures.1 in
    rw (p.1, p.2) (unlisted g.R.Read.remaining g.W.Write.contents reader c.read_up_to.new.reader writer writer
    file.file.items c.as_slice.result.now c.in_err-text.field-0.0 none file.ensures.ok c.as_slice.ensures.value
    c.in_err-text.ensures.err)
