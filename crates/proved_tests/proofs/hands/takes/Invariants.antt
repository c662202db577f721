use Rattle.std.proofs.Common.{◌≡◌}
use Rattle.proved_tests.proofs.hands.takes.Given as goal

abbrev pub invariant-loop-turn : goal.invariant-loop-turn
invariant-loop-turn g l = l.front.core ≡ l.core
