use Rattle.drive.proofs.Driven.{answers_all, leaves_all}
use Rattle.drive.proofs.interactive.driven.Goals as goal

pub returns-clause-ok : goal.returns-clause-ok
returns-clause-ok g c =
    answers_all g.W.Write.contents c.args.hand.now (g.I.Read.remaining c.args.script.now) c.args.writer.now c.answered.new.writer
    _ c.in_ok-listing.listing.items c.as_slice.result.now c.in_ok-listing.ensures.ok c.as_slice.ensures.value c.answered.result c.answered.ensures.ok

pub returns-clause-err : goal.returns-clause-err
returns-clause-err g c =
    leaves_all g.W.Write.contents c.args.hand.now (g.I.Read.remaining c.args.script.now) c.args.writer.now c.answered.new.writer
    _ c.in_ok-listing.listing.items c.as_slice.result.now c.in_ok-listing.ensures.ok c.as_slice.ensures.value c.answered.result c.answered.ensures.err
