-- The turns of a thread.
use Rattle.std.specs.Prelude.{◌≡◌, ℕ, ◌<◌, ◌≤◌}

-- The turns of a thread: how many in all, and how many of these are left
pub record TheTurns : Type 0 where
  pub all : ℕ
  pub left : ℕ

-- n turns, of which none is taken
abbrev pub untaken : ℕ → TheTurns
untaken all = record { all = all; left = all }

-- Some turns were taken, or none, and none was given back
pub record TurnsAreTaken (old new : TheTurns) : Type 0 where
  pub all : new.all ≡ old.all
  pub left : new.left ≤ old.left

-- At least one turn was taken
pub record IsTakenFrom (old new : TheTurns) : Type 0 where
  pub all : new.all ≡ old.all
  pub left : new.left < old.left
