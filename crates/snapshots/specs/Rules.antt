-- The rule over what is published and what each snapper has seen.
use Rattle.std.specs.Prelude.{◌≡◌, ℕ, ◌≤◌, List}
use mathlib.Core.Option.{some}
use lib.ListN.{get_elem?}
use Rattle.instructions.specs.Programs.{Program}
use Rattle.snapshots.specs.Snapshots.{IsSnapshotOf}
use Rattle.snapshots.specs.declared.snap.Snap.{Snap}

-- Nobody has seen more than n
abbrev pub AllBelow : ℕ → List ℕ → Type 0
AllBelow n views = (seat seen : ℕ) → get_elem? views seat ≡ some seen → seen ≤ n

-- What is published is a snapshot of the program, and nobody has seen a later one
pub record NobodyIsAhead (P : Program) (published : Snap) (views : List ℕ) : Type 0 where
  pub snapshot : IsSnapshotOf P published
  pub seen : AllBelow published.n views

-- The step of one that had seen so much, and has seen what is published then: it does not go back
pub record Told (P : Program) (had_seen : ℕ) (before published : Snap) (has_seen : ℕ) : Type 0 where
  pub snapshot : IsSnapshotOf P published
  pub later : had_seen ≤ before.n
  pub seen : has_seen ≡ published.n
