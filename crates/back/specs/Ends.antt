-- How a run ends.
use Rattle.std.specs.Prelude.{⊤, ◌≡◌, ℕ, Option, Some, None}
use Rattle.instructions.specs.Programs.{Program}
use Rattle.instructions.specs.declared.end.End.{End}
use Rattle.instructions.specs.declared.end.Ending.{Ending}
use Rattle.instructions.specs.declared.end.Ending.TheVariants.{Limit, Stop as ByStop}
use Rattle.instructions.specs.declared.stop.Stop.{Stop}
use Rattle.inorder.specs.Runs.{after, state_in, stop}

-- The next step stops with the code of the outcome, if it has one
abbrev pub StopsThere : Program → ℕ → Ending → Type 0
StopsThere P n (ByStop code) = stop P n ≡ Some code
StopsThere P n Limit = ⊤

-- The end holds the state of the machine in order after its n instructions, and a stop is that
-- machine's next step
pub record EndIsInOrder (P : Program) (e : End) : Type 0 where
  pub state : after P e.n ≡ Some (state_in e)
  pub stops : StopsThere P e.n e.outcome

-- A run ends with the code with which the back has ended, if it has
abbrev pub ending_of : Option Stop → Ending
ending_of (Some code) = ByStop code
ending_of None = Limit
