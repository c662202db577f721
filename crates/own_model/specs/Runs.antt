-- What a run of a model ends with.
use Rattle.std.specs.Prelude.{◌≡◌, ℕ, ◌+◌, ◌*◌, ◌<◌, ◌≤◌, Option, Some, None}
use Rattle.instructions.specs.Programs.{Program}
use Rattle.instructions.specs.declared.end.End.{End}
use Rattle.instructions.specs.declared.end.Ending.{Ending}
use Rattle.instructions.specs.declared.end.Ending.TheVariants.{Limit, Stop as ByStop}
use Rattle.inorder.specs.Runs.{after, state_in, stop}
use Rattle.own_model.specs.declared.state.ArchitecturalState.{ArchitecturalState}

-- The in-order machine stops after n instructions, before the limit; or they are as many as the limit
abbrev pub EndsAfter : Program → ℕ → ℕ → Ending → Type 0
EndsAfter P limit n (ByStop c) = (stop P n ≡ Some c) × (n < limit)
EndsAfter P limit n Limit = n ≡ limit

-- The state is that of the in-order machine after as many instructions
pub record IsInOrderEnd (P : Program) (limit : ℕ) (e : End) : Type 0 where
  pub state : after P e.n ≡ Some (state_in e)
  pub ends : EndsAfter P limit e.n e.outcome

-- One where something is there
abbrev pub held : {A : Type 0} → Option A → ℕ
held None = 0
held (Some v) = 1

-- How many halves have retired, where each instruction has two: a measure for loops
abbrev pub halves : ArchitecturalState → ℕ
halves a = 2 * a.committed.count + held a.low

-- The state goes on, by at most one instruction
pub record IsOneFurther (a later : ArchitecturalState) : Type 0 where
  pub count : later.committed.count ≤ a.committed.count + 1
  pub halves : halves a < halves later

-- The state goes on, by at most one instruction and as many more
pub record IsFurther (more : ℕ) (a later : ArchitecturalState) : Type 0 where
  pub count : later.committed.count ≤ a.committed.count + 1 + more
  pub halves : halves a < halves later
