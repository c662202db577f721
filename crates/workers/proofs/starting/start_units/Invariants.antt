use Rattle.std.specs.Prelude.{◌≡◌}
use Rattle.workers.proofs.starting.start_units.Given as goal

abbrev pub invariant-loop-unit : goal.invariant-loop-unit
invariant-loop-unit g l =
    (l.seat.core ≡ l.shared.core.now) × (l.count.of ≡ l.shared.state.now.counts)
