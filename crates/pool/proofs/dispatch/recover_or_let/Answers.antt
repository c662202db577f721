use Rattle.std.proofs.Common.{arith}
use Rattle.counts.specs.declared.tally.Total.TheVariants.{Lets}
use Rattle.pool.proofs.DispatchDeeds.{mended_done}
use Rattle.pool.proofs.dispatch.recover_or_let.Goals as goal

pub returns-in-Mended-clause-counted : goal.returns-in-Mended-clause-counted
returns-in-Mended-clause-counted g c = λ total has.
    let squashes = c.count-in-Mended.ensures.counted total in
    let mend = c.count.ensures.counted total in
    let done = mended_done _ _ _ _ _ _ c.in-Mended.ensures.reply total in
    omega (arith, squashes, mend, done)

pub returns-in-Mended-clause-offers : goal.returns-in-Mended-clause-offers
returns-in-Mended-clause-offers g c =
    let done = mended_done _ _ _ _ _ _ c.in-Mended.ensures.reply Lets in
    omega (arith, done)
