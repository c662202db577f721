use Rattle.std.proofs.Common.{◌≡◌, ◌<◌, ℕ, true, Some, slice_get}
use Rattle.checker.specs.Reach.{HasSuccessors}
use Rattle.checker.proofs.reach.is_closed.Given as goal

abbrev pub invariant-loop-k : goal.invariant-loop-k
invariant-loop-k l = (j : ℕ) → j < l.k → slice_get l.reached j ≡ Some true → HasSuccessors l.program l.reached j
