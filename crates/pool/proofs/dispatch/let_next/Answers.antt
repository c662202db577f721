use Rattle.std.proofs.Common.{◌<◌, ap, arith}
use Rattle.counts.specs.declared.tally.Total.TheVariants.{Lets}
use Rattle.inorder.specs.Unit.{Sizes}
use Rattle.pool.proofs.DispatchDeeds.{in_ring, let_done}
use Rattle.pool.proofs.dispatch.let_next.Goals as goal

pub overflow_cast-station : goal.overflow_cast-station
overflow_cast-station g c =
    let below : c.in-Let.station < c.args.shared.now.core.now.sizes.ring = in_ring _ _ _ c.in-Let.ensures.reply.lets.station_is
    (omega (arith, c.ring-ring.ensures.least, c.ring-ring.ensures.value)) in
    omega (arith, below, c.ring-ring.ensures.most, c.ring-ring.ensures.value)

pub push-is_put-requires-clause-station : goal.push-is_put-requires-clause-station
push-is_put-requires-clause-station g c =
    let below : c.in-Let.station < c.args.shared.now.core.now.sizes.ring = in_ring _ _ _ c.in-Let.ensures.reply.lets.station_is
    (omega (arith, c.ring-ring.ensures.least, c.ring-ring.ensures.value)) in
    omega (arith, below, c.args.shared.now.state.now.ring, ap (λ (s : Sizes). s.ring) c.args.shared.now.sizes)

pub returns-in-Let-clause-counted : goal.returns-in-Let-clause-counted
returns-in-Let-clause-counted g c = λ total has.
    let counts = c.count.ensures.counted total in
    let done = let_done _ _ _ _ _ _ _ _ c.in-Let.ensures.reply.lets total in
    omega (arith, counts, done)

pub returns-in-Let-clause-offers : goal.returns-in-Let-clause-offers
returns-in-Let-clause-offers g c =
    let done = let_done _ _ _ _ _ _ _ _ c.in-Let.ensures.reply.lets Lets in
    omega (arith, done, c.push-is_put.ensures.offered.once)
