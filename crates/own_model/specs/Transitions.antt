-- The transitions of a model as steps. A model is given by its relation: of which units it stands in each state.
use Rattle.std.specs.Prelude.{⊤, ◌≡◌, ℕ, List, Some, None}
use Rattle.std.specs.List.{AllByRecursion}
use Rattle.instructions.specs.Programs.{Program, instr_at}
use Rattle.instructions.specs.declared.stop.Stop.{Stop}
use Rattle.instructions.specs.declared.stop.Stop.TheVariants.{BadPc}
use Rattle.inorder.specs.declared.history.Step.{Step}
use Rattle.inorder.specs.Committed.{committed}
use Rattle.inorder.specs.Machine.{State}
use Rattle.inorder.specs.Moves.{IsReached, Leads}
use Rattle.inorder.specs.Tenants.{Retired, Stopped, Tenant}
use Rattle.inorder.specs.Unit.{Sizes, UpdateUnit, at}

-- Allowed steps of one caller, each of this form, lead from U to V. The form is `IsPlain` where none of them
-- speculates, else `IsAny`
pub record Reaches (IsOne : Step → Type 0) (P : Program) (C : Sizes) (U V : UpdateUnit) : Type 0 where
  pub steps : List Step
  pub are : AllByRecursion IsOne steps
  pub leads : Leads P C 0 U steps V

-- Any step
abbrev pub IsAny : Step → Type 0
IsAny s = ⊤

-- From U such steps lead to a unit of which Later holds
pub record MovesTo (IsOne : Step → Type 0) (P : Program) (C : Sizes) (U : UpdateUnit)
    (Later : UpdateUnit → Type 0) : Type 0 where
  pub unit : UpdateUnit
  pub reaches : Reaches IsOne P C U unit
  pub stands : Later unit

-- A model goes on: from each reached unit that it stands for such steps lead to one that it stands for later
abbrev pub Goes : (Step → Type 0) → Program → Sizes → (Before Later : UpdateUnit → Type 0) → Type 0
Goes IsOne P C Before Later =
    (U : UpdateUnit) → IsReached P C U → Before U → MovesTo IsOne P C U Later

-- A program stops with this code: a stop has retired, or there is no instruction to go on with
pub data StopsWith (P : Program) (ts : List Tenant) (c : Stop) : Type 0 where
  ByStop : (p : ℕ) (t : Tenant) → at ts p ≡ Some t → t.standing ≡ Retired → t.fate ≡ Stopped c → StopsWith P ts c
  Nowhere : c ≡ BadPc → instr_at P (committed P ts).pc ≡ None → StopsWith P ts c

-- The unit has committed this state, and stops
pub record HasStopped (P : Program) (s : State) (c : Stop) (U : UpdateUnit) : Type 0 where
  pub state : s ≡ committed P U.tenants
  pub stops : StopsWith P U.tenants c

-- There is a unit that such steps reach and that a model stands for
pub record StandsForSome (IsOne : Step → Type 0) (P : Program) (C : Sizes)
    (Stands : UpdateUnit → Type 0) : Type 0 where
  pub unit : UpdateUnit
  pub reached : IsReached P C unit
  pub are : AllByRecursion (λ t. IsOne t.step) reached.history
  pub stands : Stands unit
