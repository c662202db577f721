use Rattle.std.proofs.Common.{arith}
use Rattle.replay.proofs.Dropped.{unasked_by}
use Rattle.replay.proofs.unit.Unit.unasked.Goals as goal

pub returns : goal.returns
returns c =
    let u = c.args.self.now in
    unasked_by u.tenants.items u.settled.upto c.closed-closed.result c.loop-q.n c.closed-closed.ensures.within c.closed-closed.ensures.closed
    c.loop-q.invariant.less (λ p late lt. c.loop-q.invariant.needs p late (omega (arith, lt, c.loop-q-test.false, c.len-q-end.ensures.len)))
