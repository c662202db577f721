use Rattle.std.proofs.Common.{ℕ, ◌<◌, ◌≤◌}
use Rattle.replay.specs.Dropping.{NeedsFromBoth}
use Rattle.replay.proofs.unit.Unit.unasked.Given as goal

abbrev pub invariant-loop-q : goal.invariant-loop-q
invariant-loop-q l = record {
  less : l.n ≤ l.initial.n;
  needs : (p : ℕ) → l.initial.q ≤ p → p < l.q → NeedsFromBoth l.self.tenants.items p l.n;
}
