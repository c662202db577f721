-- Where links and deliveries stand in a history, which no log names.
use Rattle.std.specs.Prelude.{⊤, ◌≡◌, ◌≢◌, ◌⊎◌, ℕ, Bool, true, false, List, [], ◌∷◌, ◌++◌, Some, length, slice_get, take}
use Rattle.std.specs.List.{AllByRecursion}
use Rattle.instructions.specs.Programs.{Program}
use Rattle.inorder.specs.declared.history.Act.{Act}
use Rattle.inorder.specs.declared.history.Act.TheVariants.{Deliver, Finish, Link, Load, Retire, Speculate}
use Rattle.inorder.specs.declared.history.Speculation.TheVariants.{Guess}
use Rattle.inorder.specs.declared.history.Source.{Source}
use Rattle.inorder.specs.declared.history.Source.TheVariants.{First, Second}
use Rattle.inorder.specs.declared.history.Step.{Step as UnitStep}
use Rattle.inorder.specs.declared.history.Step.TheVariants.{Let as UnitLet, On as UnitOn, Renew}
use Rattle.inorder.specs.Legal.{Allowed, AreAllowed, MayAct, Taken, applied, change_at, reached}
use Rattle.inorder.specs.Moves.{Leads}
use Rattle.inorder.specs.Steps.{MayDeliver}
use Rattle.inorder.specs.Theorem.{IsInOrder}
use Rattle.inorder.specs.Unit.{Sizes, UpdateUnit, at, older}
use Rattle.inorder.specs.Tenants.{Tenant, operand}
use Rattle.replay.specs.declared.acting.Deed.TheVariants.{Deliver as ToDeliver, Link as ToLink}
use Rattle.replay.specs.declared.judging.Verdict.{Verdict}
use Rattle.replay.specs.declared.judging.Verdict.TheVariants.{Legal, Refused}
use Rattle.replay.specs.declared.step.Reason.{Reason}
use Rattle.replay.specs.declared.step.Step.{Step}
use Rattle.replay.specs.declared.step.Step.TheVariants.{On}
use Rattle.replay.specs.declared.unit.Unit.{Unit as Held}
use Rattle.replay.specs.Lets.{sizes_of, unit_of}
use Rattle.replay.specs.Shown.{shown}
use Rattle.replay.specs.Verdicts.{IsForbiddenIn, IsNamed, IsWhy, turned}

-- A link or a delivery
abbrev pub IsSilent : UnitStep → Type 0
IsSilent (UnitOn p (Link k)) = ⊤
IsSilent (UnitOn p (Deliver k)) = ⊤
IsSilent _ = ⊥

-- A step that names neither
abbrev pub IsSpoken : Step → Type 0
IsSpoken (On p (ToLink k)) = ⊥
IsSpoken (On p (ToDeliver k)) = ⊥
IsSpoken _ = ⊤

-- A step that one caller takes, of this name
abbrev pub IsTakenAs : Step → Taken → Type 0
IsTakenAs s t = IsNamed s t.step × (t.by ≡ 0)

-- These steps are those that are named, with links and deliveries among them; the last one is the first of each list
abbrev pub AreAmong : List Step → List Taken → Type 0
AreAmong [] [] = ⊤
AreAmong [] (t ∷ ts) = IsSilent t.step × AreAmong [] ts
AreAmong (s ∷ ss) [] = ⊥
AreAmong (s ∷ ss) (t ∷ ts) =
    (IsTakenAs s t × AreAmong ss ts) ⊎ (IsSilent t.step × AreAmong (s ∷ ss) ts)

-- A legal history that makes the named steps in their order, and else only links and deliveries, wherever they stand
pub record IsInterleaved (P : Program) (C : Sizes) (steps : List Step) (history : List Taken) : Type 0 where
  pub allowed : AreAllowed P C history
  pub among : AreAmong (turned steps []) history

-- No link and no delivery is due
abbrev pub HasNothingDue : Program → Sizes → UpdateUnit → Type 0
HasNothingDue P C U = (t : UnitStep) → IsSilent t → ¬ Allowed P C U 0 t

-- Refused is free of placing: where one legal history of the named steps leads to a unit in which no link and no delivery is
-- due, and no step of the next name is allowed, no legal history at all makes the named steps and then that one
abbrev pub EachRefusalIsFree : Type 0
EachRefusalIsFree =
    (P : Program) (C : Sizes) (before : List Step) (step : Step) (one other : List Taken) →
    IsInterleaved P C before one → HasNothingDue P C (reached P C one) → IsSpoken step →
    IsForbiddenIn P C (reached P C one) step →
    ¬ IsInterleaved P C (before ++ step ∷ []) other

-- Links and deliveries that are made as soon as they are due

-- An act on the tenant at position p is taken, if it is allowed; else nothing changes
abbrev pub IsTried : Program → List Tenant → ℕ → Act → List Tenant → Type 0
IsTried P ts p act us =
    (MayAct P ts 0 p act × (us ≡ change_at P ts 0 p act (at ts p)))
    ⊎ ((¬ MayAct P ts 0 p act) × (us ≡ ts))

-- An act is tried in a unit as it is held, which keeps its program, its sizes and its number of tenants
pub record Tries (u : Held) (p : ℕ) (act : Act) (v : Held) : Type 0 where
  pub program : v.program ≡ u.program
  pub sizes : sizes_of v ≡ sizes_of u
  pub length : length v.tenants.items ≡ length u.tenants.items
  pub tenants : IsTried u.program.now (shown u.tenants.items) p act (shown v.tenants.items)

-- Source k of the tenant at position p is linked, if it may be, and then delivered, if it may be
pub record Supplies (u : Held) (p : ℕ) (k : Source) (v : Held) : Type 0 where
  pub linked : Held
  pub links : Tries u p (Link k) linked
  pub delivers : Tries linked p (Deliver k) v

-- Both sources of the tenant at position p are supplied in turn
pub record SuppliesBoth (u : Held) (p : ℕ) (v : Held) : Type 0 where
  pub middle : Held
  pub first : Supplies u p First middle
  pub second : Supplies middle p Second v

-- Links and deliveries lead from a unit to a later one
pub record LeadsSilently (u v : Held) : Type 0 where
  pub program : v.program ≡ u.program
  pub sizes : sizes_of v ≡ sizes_of u
  pub length : length v.tenants.items ≡ length u.tenants.items
  pub steps : List UnitStep
  pub silent : AllByRecursion IsSilent steps
  pub leads : Leads u.program.now (sizes_of u) 0 (unit_of u) steps (unit_of v)

-- What is due after a step

-- Source k of the tenant at position p is not to be linked or delivered
pub record IsNotDue (P : Program) (ts : List Tenant) (p : ℕ) (k : Source) : Type 0 where
  pub link : ¬ MayAct P ts 0 p (Link k)
  pub delivery : ¬ MayAct P ts 0 p (Deliver k)

-- Nothing is due
abbrev pub AreNotDue : Program → List Tenant → Type 0
AreNotDue P ts = (q : ℕ) (k : Source) → IsNotDue P ts q k

-- Nothing is due but to the tenant at position p
abbrev pub AreDueTo : Program → List Tenant → ℕ → Type 0
AreDueTo P ts p = (q : ℕ) (k : Source) → q ≢ p → IsNotDue P ts q k

-- Nothing is due to source k of the tenant at position q but the value that the tenant at position p has made
pub record IsDueFrom (P : Program) (ts : List Tenant) (p q : ℕ) (k : Source) : Type 0 where
  pub link : ¬ MayAct P ts 0 q (Link k)
  pub delivery : (t : Tenant) → at ts q ≡ Some t → MayDeliver (older ts q) t k → (operand k t).creator ≡ Some p

-- Nothing is due but deliveries of what the tenant at position p has made
abbrev pub AreDueFrom : Program → List Tenant → ℕ → Type 0
AreDueFrom P ts p = (q : ℕ) (k : Source) → IsDueFrom P ts p q k

-- An act by which a tenant may make a value
abbrev pub may_make : Act → Bool
may_make Finish = true
may_make Load = true
may_make (Retire n) = true
may_make (Speculate (Guess v)) = true
may_make _ = false

-- What an act on the tenant at position p leaves due
abbrev pub LeavesDue : Bool → Program → List Tenant → ℕ → Type 0
LeavesDue true P ts p = AreDueFrom P ts p
LeavesDue false P ts p = AreNotDue P ts

-- What a step in the unit U leaves due to the tenants ts after it
abbrev pub StepLeavesDue : UnitStep → Program → UpdateUnit → List Tenant → Type 0
StepLeavesDue (UnitLet index predicted first second) P U ts = AreDueTo P ts (length U.tenants)
StepLeavesDue (UnitOn p act) P U ts = LeavesDue (may_make act) P ts p
StepLeavesDue Renew P U ts = AreNotDue P ts

-- Where nothing is due, a step leaves only the sources of a new tenant due, or deliveries from the tenant that stepped
abbrev pub EachStepLeavesDue : Type 0
EachStepLeavesDue =
    (P : Program) (C : Sizes) (U : UpdateUnit) (t : UnitStep) → HasNothingDue P C U → Allowed P C U 0 t →
    StepLeavesDue t P U (applied P C U 0 t).tenants

-- Nothing is due in a unit as it is held
abbrev pub IsQuiet : Held → Type 0
IsQuiet u = HasNothingDue u.program.now (sizes_of u) (unit_of u)

-- The value that the tenant at position p has made is due to source k of the tenant at position q
pub record IsDelivery (P : Program) (ts : List Tenant) (p q : ℕ) (k : Source) : Type 0 where
  pub tenant : Tenant
  pub is : at ts q ≡ Some tenant
  pub may : MayDeliver (older ts q) tenant k
  pub from : (operand k tenant).creator ≡ Some p

-- The delivery of that value is made if it is due
abbrev pub Delivers : Held → (p q : ℕ) → Source → Held → Type 0
Delivers u p q k v =
    Tries u q (Deliver k) v ⊎ ((¬ IsDelivery u.program.now (shown u.tenants.items) p q k) × (v ≡ u))

-- Verdicts on steps among which no link and no delivery is named

-- A legal history of the named steps reaches this unit
pub record IsPlacedTo (P : Program) (C : Sizes) (steps : List Step) (U : UpdateUnit) : Type 0 where
  pub history : List Taken
  pub placed : IsInterleaved P C steps history
  pub reaches : reached P C history ≡ U

-- All steps are legal, and what has retired is the in-order machine's state
pub record IsLegalPlaced (P : Program) (C : Sizes) (steps : List Step) : Type 0 where
  pub unit : UpdateUnit
  pub placed : IsPlacedTo P C steps unit
  pub in_order : IsInOrder P unit.tenants

-- The steps before step n are legal, a reason against step n is true there, and no history makes these steps and it
pub record IsRefusedFreely (P : Program) (C : Sizes) (steps : List Step) (n : ℕ) (reason : Reason) : Type 0 where
  pub step : Step
  pub is : slice_get steps n ≡ Some step
  pub unit : Held
  pub program : unit.program.now ≡ P
  pub sizes : sizes_of unit ≡ C
  pub placed : IsPlacedTo P C (take n steps) (unit_of unit)
  pub why : IsWhy unit step reason
  pub free : IsSpoken step → (history : List Taken) → ¬ IsInterleaved P C (take n steps ++ step ∷ []) history

-- What a verdict on named steps says
abbrev pub IsFreeVerdict : Program → Sizes → List Step → Verdict → Type 0
IsFreeVerdict P C steps Legal = IsLegalPlaced P C steps
IsFreeVerdict P C steps (Refused n reason) = IsRefusedFreely P C steps n reason
