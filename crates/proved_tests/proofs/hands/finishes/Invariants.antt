use Rattle.std.proofs.Common.{◌≡◌}
use Rattle.proved_tests.proofs.hands.finishes.Given as goal

abbrev pub invariant-loop-station : goal.invariant-loop-station
invariant-loop-station g l = l.unit.core ≡ l.core
