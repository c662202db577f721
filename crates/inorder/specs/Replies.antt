-- When each reply is allowed, by the unit at its point. A reply that is not here names the step
-- that was made.
use Rattle.std.specs.Prelude.{◌≡◌, ◌≢◌, ℕ, ◌-◌, ◌^◌, ◌<◌, true, ◌&&◌, length, Some, None, if◌then◌else◌}
use Rattle.std.specs.List.{AllByRecursion}
use Rattle.instructions.specs.declared.op.Half.{Half}
use Rattle.instructions.specs.Instruction.{is_access, kind}
use Rattle.instructions.specs.Programs.{Program, address, instr_at, instr_of}
use Rattle.instructions.specs.declared.stop.Stop.{Stop}
use Rattle.inorder.specs.declared.history.Source.{Source}
use Rattle.inorder.specs.declared.history.Source.TheVariants.{First, Second}
use Rattle.inorder.specs.Steps.{CanRetire, IsNoRetiredStop}
use Rattle.inorder.specs.Tenants.{IsNotLive, IsThere, Linked, Live, Miss, Open, Retired, Squashed, Stopped, Tenant, is_live, kind_of, missing, needs, operand, operand_value}
use Rattle.inorder.specs.Unit.{Sizes, UpdateUnit, at, front_pc, how_many, next_tag, older, recent}

-- No tenant gets this tag, so that the tag after each tenant's has its bits too
abbrev pub last_tag : ℕ
last_tag = 2 ^ 28 - 1

-- The tenant is live, and not claimed
pub record IsOpen (t : Tenant) : Type 0 where
  pub live : t.standing ≡ Live
  pub fate : t.fate ≡ Open

-- There is a tenant at this position, and this is true of it
pub record Has (U : UpdateUnit) (p : ℕ) (Fact : Tenant → Type 0) : Type 0 where
  pub tenant : Tenant
  pub is : at U.tenants p ≡ Some tenant
  pub fact : Fact tenant

-- What the front is told

-- As many tenants are live as there are stations
abbrev pub IsFull : Sizes → UpdateUnit → Type 0
IsFull C U = how_many is_live U.tenants ≡ C.ring

-- There is no instruction at the front pc
abbrev pub HasNoInstr : Program → UpdateUnit → Type 0
HasNoInstr P U = instr_at P (front_pc U.tenants) ≡ None

-- The next instruction is a load or store, and as many are live as the queue takes
pub record HasFullQueue (P : Program) (C : Sizes) (U : UpdateUnit) : Type 0 where
  pub index : ℕ
  pub is_there : index < length P.code
  pub pc : front_pc U.tenants ≡ address index
  pub access : is_access (kind (instr_of P index).op) ≡ true
  pub full : how_many (λ t. is_live t && is_access (kind_of P t)) U.tenants ≡ C.queue

-- The next tenant's tag would be the last one, which none gets
abbrev pub IsSpent : Sizes → UpdateUnit → Type 0
IsSpent C U = next_tag C (recent U) ≡ last_tag

-- Source k has its value
abbrev pub IsDelivered : UpdateUnit → ℕ → Source → Type 0
IsDelivered U p k = Has U p (λ t. IsThere (operand k t).value)

-- Source k of this tenant was asked for in time, before its creator had made anything
abbrev pub IsAskedInTime : UpdateUnit → ℕ → Source → Type 0
IsAskedInTime U p k = Has U p (λ t. (operand k t).way ≡ Linked true)

-- No live tenant is a miss: the front is told so of the point where its call begins
abbrev pub HasNoMiss : UpdateUnit → Type 0
HasNoMiss U =
    (p x : ℕ) (t : Tenant) → at U.tenants p ≡ Some t → t.standing ≡ Live → t.fate ≢ Miss x

-- What a unit is told

-- The value of a source that is needed, 0 for another
abbrev pub needed : Program → Source → Tenant → ℕ
needed P k t = if needs (kind_of P t) k then operand_value (operand k t) else 0

-- The fields of a claimed tenant
pub record JobFields : Type 0 where
  pub station : ℕ
  pub tag : ℕ
  pub index : ℕ
  pub half : Half
  pub pc : ℕ
  pub predicted : ℕ
  pub first : ℕ
  pub second : ℕ

-- The fields of the job that a claim of this tenant gives
abbrev pub job_of : Program → Tenant → JobFields
job_of P t =
    record {
      station = t.station;
      tag = t.tag;
      index = t.index;
      half = t.half;
      pc = t.pc;
      predicted = t.predicted;
      first = needed P First t;
      second = needed P Second t;
    }

-- No tenant of station s is open
abbrev pub HasNoOpen : UpdateUnit → ℕ → Type 0
HasNoOpen U s = (p : ℕ) (t : Tenant) → at U.tenants p ≡ Some t → t.station ≡ s → ¬ IsOpen t

-- Source k is the least one that is needed and not delivered
abbrev pub IsWaiting : Program → UpdateUnit → ℕ → Source → Type 0
IsWaiting P U p k = Has U p (λ t. missing P t ≡ Some k)

-- The tenant at position p is open no longer
abbrev pub HasMoved : UpdateUnit → ℕ → Type 0
HasMoved U p = Has U p (λ t. ¬ IsOpen t)

-- The tenant was squashed
abbrev pub IsSquashed : Tenant → Type 0
IsSquashed t = t.standing ≡ Squashed

-- The tenant at position p was squashed
abbrev pub IsStale : UpdateUnit → ℕ → Type 0
IsStale U p = Has U p IsSquashed

-- What the back is told. `Over` comes before the two others

-- The tenant is a stop that has retired
pub record IsRetiredStop (t : Tenant) : Type 0 where
  pub code : Stop
  pub standing : t.standing ≡ Retired
  pub fate : t.fate ≡ Stopped code

-- A stop has retired
pub record IsOver (U : UpdateUnit) : Type 0 where
  pub p : ℕ
  pub stop : Has U p IsRetiredStop

-- Nobody is live, and no stop has retired
pub record IsEmpty (U : UpdateUnit) : Type 0 where
  pub goes_on : AllByRecursion IsNoRetiredStop U.tenants
  pub none : AllByRecursion IsNotLive U.tenants

-- The oldest live tenant cannot retire yet, and no stop has retired
pub record IsNotDone (P : Program) (U : UpdateUnit) : Type 0 where
  pub goes_on : AllByRecursion IsNoRetiredStop U.tenants
  pub p : ℕ
  pub tenant : Tenant
  pub is : at U.tenants p ≡ Some tenant
  pub live : tenant.standing ≡ Live
  pub oldest : AllByRecursion IsNotLive (older U.tenants p)
  pub stays : ¬ CanRetire (kind_of P tenant) tenant.second.value tenant.fate
