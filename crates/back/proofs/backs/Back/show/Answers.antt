use Rattle.std.proofs.Common.{ap, sym, subst}
use Rattle.std.specs.Prelude.{option_map}
use Rattle.snapshots.specs.Snapshots.{IsSnapshotOf, snapshot}
use Rattle.back.proofs.SeatKept.{after_is, plain}
use Rattle.back.proofs.backs.Back.show.Goals as goal

pub publish-requires-clause-snap : goal.publish-requires-clause-snap
publish-requires-clause-snap g c =
    let b = c.self.inside in
    let P = g.J.OfProgram.program in
    let k = c.self.invariant in
    let after = after_is P b.seat.core.sizes b.seat.seen k.legal b.committed b.low b.head b.ended (plain P b.committed b.low b.head b.ended b.publisher b.seat k) in
    subst (λ s. IsSnapshotOf P s) (λ i. record { n = sym c.count.ensures i; pc = sym c.pc.ensures i; registers = sym c.registers.ensures i }) (ap (option_map snapshot) after)
