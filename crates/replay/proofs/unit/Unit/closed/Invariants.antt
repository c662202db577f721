use Rattle.std.proofs.Common.{ℕ, ◌<◌}
use Rattle.replay.specs.Dropping.{AreClosed}
use Rattle.replay.proofs.unit.Unit.closed.Given as goal

abbrev pub invariant-loop-q : goal.invariant-loop-q
invariant-loop-q l = (p : ℕ) → p < l.q → AreClosed l.self.tenants.items p
