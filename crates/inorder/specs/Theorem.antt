-- The one-thread unit is right.
use Rattle.std.specs.Prelude.{◌≡◌, ℕ, List, Some}
use Rattle.instructions.specs.Programs.{Program}
use Rattle.instructions.specs.declared.stop.Stop.{Stop}
use Rattle.inorder.specs.Committed.{committed}
use Rattle.inorder.specs.Legal.{AreAllowed, Taken, reached}
use Rattle.inorder.specs.Runs.{after, stop}
use Rattle.inorder.specs.Tenants.{Retired, Stopped, Tenant}
use Rattle.inorder.specs.Unit.{Sizes, at}

-- What a unit has committed is the state of the machine in order after as many instructions, and a
-- retired stop has the code with which the machine in order stops there
pub record IsInOrder (P : Program) (ts : List Tenant) : Type 0 where
  pub state : after P (committed P ts).count ≡ Some (committed P ts)
  pub stops : (p : ℕ) (t : Tenant) (c : Stop) → at ts p ≡ Some t →
      t.standing ≡ Retired → t.fate ≡ Stopped c → stop P (committed P ts).count ≡ Some c

-- Whatever steps were taken, in any order, by any callers
abbrev pub IsRight : Program → Sizes → List Taken → Type 0
IsRight P C history = AreAllowed P C history → IsInOrder P (reached P C history).tenants
