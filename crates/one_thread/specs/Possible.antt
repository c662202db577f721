-- The steps that a turn may make in a unit, in a fixed order.
use Rattle.std.specs.Prelude.{ℕ, Bool, true, false, ◌&&◌, List, [], ◌∷◌, ◌++◌, take, Option, Some, None, is_none, nat_lt, if◌then◌else◌}
use Rattle.instructions.specs.Instruction.{is_access, kind, width}
use Rattle.instructions.specs.Programs.{Program, instr_at}
use Rattle.instructions.specs.declared.instr.Instr.{Instr}
use Rattle.instructions.specs.declared.op.Kind.{Kind}
use Rattle.instructions.specs.declared.op.Kind.TheVariants.{Loads, Stores}
use Rattle.inorder.specs.Loads.{queue_of}
use Rattle.inorder.specs.Tenants.{Addr, Done, Fate, Miss, Open, Retired, Standing, Stopped, Tenant, instr, is_live, is_live_access, kind_of, missing}
use Rattle.inorder.specs.Unit.{Sizes, UpdateUnit, front_pc, how_many}
use Rattle.lsq.specs.declared.answer.Answer.{Answer}
use Rattle.lsq.specs.declared.answer.Answer.TheVariants.{Blocked}
use Rattle.lsq.specs.LoadRule.{answer_over}

-- A step that is possible. A tenant is named by its age: how many live tenants are before it
pub data Possible : Type 0 where
  ToRecover : (age : ℕ) → Possible
  ToLet : Possible
  ToRun : (age : ℕ) → Possible
  ToLoad : (age : ℕ) → Possible
  ToRetire : Possible

-- A fate by its name

-- A misprediction that is known
abbrev pub is_miss : Fate → Bool
is_miss (Miss x) = true
is_miss _ = false

-- A tenant that is not claimed yet
abbrev pub is_open : Fate → Bool
is_open Open = true
is_open _ = false

-- A stop that has retired
abbrev pub stopped_by : Standing → Fate → Bool
stopped_by Retired (Stopped c) = true
stopped_by _ _ = false

-- One of these tenants is a stop that has retired
abbrev pub has_stopped : List Tenant → Bool
has_stopped [] = false
has_stopped (t ∷ ts) = if stopped_by t.standing t.fate then true else has_stopped ts

-- A live miss
abbrev pub can_recover : List Tenant → Tenant → Bool
can_recover ts t = is_live t && is_miss t.fate

-- An instruction, if there is one, finds room in the queue
abbrev pub fits_in : Program → ℕ → List Tenant → Option Instr → Bool
fits_in P queue ts None = false
fits_in P queue ts (Some i) =
    if is_access (kind i.op) then nat_lt (how_many (is_live_access P) ts) queue else true

-- The next instruction can be let: there is one, a station is free, and the queue has room for it
abbrev pub can_be_let : Program → Sizes → List Tenant → Bool
can_be_let P C ts =
    nat_lt (how_many is_live ts) C.ring && fits_in P C.queue ts (instr_at P (front_pc ts))

-- A live and open tenant that has all that a claim needs
abbrev pub can_be_claimed : Program → List Tenant → Tenant → Bool
can_be_claimed P ts t = is_live t && (is_open t.fate && is_none (missing P t))

-- The rule does not block
abbrev pub is_answered : Answer → Bool
is_answered (Blocked place) = false
is_answered _ = true

-- A load with its address that the rule blocks by none of the live memory instructions before it
abbrev pub answered_by : Program → List Tenant → Instr → Kind → Fate → Bool
answered_by P ts i Loads (Addr a) = is_answered (answer_over (queue_of P ts) a (width i.op))
answered_by P ts i _ _ = false

-- A live tenant that is such a load
abbrev pub can_be_loaded : Program → List Tenant → Tenant → Bool
can_be_loaded P ts t = is_live t && answered_by P ts (instr P t) (kind_of P t) t.fate

-- A tenant of this kind, data and fate is done, a store with address and data, or a stop
abbrev pub has_ended : Kind → Option ℕ → Fate → Bool
has_ended k second (Done v) = true
has_ended k second (Stopped c) = true
has_ended Stores (Some v) (Addr a) = true
has_ended k second _ = false

-- The first of two that is there
abbrev pub first_some : Option Tenant → Option Tenant → Option Tenant
first_some None o = o
first_some (Some t) o = Some t

-- The oldest live tenant, if there is one
abbrev pub oldest_live : List Tenant → Option Tenant
oldest_live [] = None
oldest_live (t ∷ ts) = first_some (oldest_live ts) (if is_live t then Some t else None)

-- A retirement of the oldest live tenant, if that can retire
abbrev pub retirement : Program → Option Tenant → List Possible
retirement P None = []
retirement P (Some t) =
    if has_ended (kind_of P t) t.second.value t.fate then ToRetire ∷ [] else []

-- A step for each tenant that passes a test, the oldest first
abbrev pub each_that : (List Tenant → Tenant → Bool) → (ℕ → Possible) → List Tenant → List Possible
each_that test step [] = []
each_that test step (t ∷ ts) =
    each_that test step ts ++ (if test ts t then step (how_many is_live ts) ∷ [] else [])

-- The steps that are possible while the unit goes on: recovery of the oldest miss, the next let, the execution of
-- each tenant that can be claimed, the load of each that is not blocked, the oldest first, and a retirement
abbrev pub steps_of : Program → Sizes → List Tenant → List Possible
steps_of P C ts =
    take 1 (each_that can_recover ToRecover ts)
    ++ (if can_be_let P C ts then ToLet ∷ [] else [])
    ++ each_that (can_be_claimed P) ToRun ts
    ++ each_that (can_be_loaded P) ToLoad ts
    ++ retirement P (oldest_live ts)

-- The steps that are possible in a unit: none where it has ended
abbrev pub possible : Program → Sizes → UpdateUnit → List Possible
possible P C U = if has_stopped U.tenants then [] else steps_of P C U.tenants
