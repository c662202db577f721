use Rattle.std.proofs.lemmas.Result.{IfErr-weaker, IfOk-weaker}
use Rattle.counted_io.specs.Counted.{known_by}
use Rattle.answers.specs.Parsed.{IsParsed}
use Rattle.answers.proofs.Listings.{found_taken, no_room}
use Rattle.answers.proofs.listing.read_listing.Goals as goal

pub returns-clause-ok : goal.returns-clause-ok
returns-clause-ok g c =
    let taken = c.in_ok-listing.listing in
    IfOk-weaker c.parsed.result _ _
    (λ found is. found_taken (IsParsed found) (known_by g.R.Read.remaining c.args.reader.now) taken.items c.as_slice.result.now
    c.in_ok-listing.ensures.ok c.as_slice.ensures.value is) c.parsed.ensures.ok

pub returns-clause-err : goal.returns-clause-err
returns-clause-err g c =
    IfErr-weaker c.parsed.result _ _
    (λ fault is. no_room g.R.Read.remaining c.args.reader.now c.read_up_to.new.reader fault is c.in_ok-listing.ensures.read) c.parsed.ensures.err
