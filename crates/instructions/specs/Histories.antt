-- Histories that grow at their front, so that their last entry comes first.
use Rattle.std.specs.Prelude.{◌≡◌, List, ◌++◌}

-- A history began as another: `point` was a moment of it
pub record StartsWith {A : Type 0} (history point : List A) : Type 0 where
  pub more : List A
  pub is : history ≡ more ++ point

-- A moment of a call whose caller had seen `old` when it began, and has seen `new` at its return
pub record IsWithin {A : Type 0} (old new point : List A) : Type 0 where
  pub before_return : StartsWith new point
  pub behind_call : StartsWith point old
