-- Who leaves, as the predictor is told of it.
use Rattle.std.specs.Prelude.{◌≡◌, ℕ, Bool, true, false, ◌&&◌, ◌-◌, List, length, Option, Some, None}
use Rattle.instructions.specs.declared.guessing.Leaver.{Leaver}
use Rattle.instructions.specs.Programs.{Program}
use Rattle.instructions.specs.declared.instr.Instr.{Instr}
use Rattle.inorder.specs.Callers.{is_retired}
use Rattle.inorder.specs.Tenants.{Tenant, computed_next}
use Rattle.inorder.specs.Unit.{newest_of}
use Rattle.front.specs.declared.path.record.Record.{Record}
use Rattle.front.specs.Trail.{is_guessed}

-- The tenants after the first `told`
abbrev pub untold : ℕ → List Tenant → List Tenant
untold told ts = newest_of (length ts - told) ts

-- A leaver, if the predictor was asked about it
abbrev pub leaver_if : Bool → ℕ → ℕ → Option Leaver
leaver_if true pc next = Some (record { pc = pc; next = next })
leaver_if false pc next = None

-- The last tenant of a station, if it was predicted and has retired: its pc, and its computed next pc
abbrev pub leaver_in : Program → Option Tenant → Option Leaver
leaver_in P None = None
leaver_in P (Some t) = leaver_if (is_retired t && is_guessed P t) t.pc (computed_next P t)

-- The leaver of a tenant that leaves, by its record, if the predictor was asked about it
abbrev pub leaver_of : Option Record → Option Leaver
leaver_of None = None
leaver_of (Some x) = leaver_if x.guessed x.pc x.next

-- A predictor that answers this, and does not change by it
abbrev pub always_answers : {S : Type 0} → ℕ → S → ℕ → Instr → ℕ → S → Type 0
always_answers next old pc i answer new = (answer ≡ next) × (new ≡ old)

-- A given answer in place of the predictor's, if there is one
abbrev pub given_or : {S : Type 0} → Option ℕ → (S → ℕ → Instr → ℕ → S → Type 0) →
    S → ℕ → Instr → ℕ → S → Type 0
given_or None Predicts = Predicts
given_or (Some next) Predicts = always_answers next
