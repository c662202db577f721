-- A tenant: one use of a reservation station by an instruction in flight.
use Rattle.std.specs.Prelude.{◌≡◌, ◌≢◌, ℕ, Bool, true, false, ◌&&◌, length, Option, Some, None, unwrap_or, if◌then◌else◌}
use Rattle.instructions.specs.Instruction.{destination, is_access, is_first_half, kind, pc_plus_4}
use Rattle.instructions.specs.Operations.{outcome_of}
use Rattle.instructions.specs.Programs.{Program, instr_of}
use Rattle.instructions.specs.declared.instr.Instr.{Instr}
use Rattle.instructions.specs.declared.op.Half.{Half}
use Rattle.instructions.specs.declared.op.Kind.{Kind}
use Rattle.instructions.specs.declared.op.Kind.TheVariants.{Links, Stores}
use Rattle.instructions.specs.declared.stop.Outcome.{Outcome}
use Rattle.instructions.specs.declared.stop.Outcome.TheVariants.{Next}
use Rattle.instructions.specs.declared.stop.Stop.{Stop}
use Rattle.inorder.specs.declared.history.Source.{Source}
use Rattle.inorder.specs.declared.history.Source.TheVariants.{First, Second}

-- How a source gets its value: it was known at the let, or comes from its creator. Then no link was
-- asked for yet, or one was, in time or after the creator had made its value
pub data Way : Type 0 where
  AtLet : Way
  Unlinked : Way
  Linked : (in_time : Bool) → Way

-- One source of a tenant
pub record Operand : Type 0 where
  pub creator : Option ℕ  -- the position of the tenant that makes its value
  pub way : Way
  pub value : Option ℕ  -- delivered

-- How far a tenant has come
pub data Fate : Type 0 where
  Open : Fate
  Busy : (by : ℕ) → Fate
  Addr : (at : ℕ) → Fate
  Done : (value : ℕ) → Fate
  Miss : (next : ℕ) → Fate
  Stopped : (code : Stop) → Fate
  Guessed : (value : ℕ) → Fate  -- a load that took a value which is not confirmed

-- Whether it has left, and how
pub data Standing : Type 0 where
  Live : Standing
  Retired : Standing
  Squashed : Standing

-- A tenant, with all that is known of it
pub record Tenant : Type 0 where
  pub station : ℕ
  pub tag : ℕ
  pub index : ℕ  -- of its instruction
  pub half : Half  -- of its instruction
  pub pc : ℕ
  pub predicted : ℕ
  pub next : ℕ  -- the predicted next pc, or the computed one once it was mended
  pub first : Operand
  pub second : Operand
  pub made : Option ℕ  -- for its register
  pub fate : Fate
  pub standing : Standing

-- Source k of a tenant
abbrev pub operand : Source → Tenant → Operand
operand First t = t.first
operand Second t = t.second

-- The tenant with another source k
abbrev pub with_operand : Source → Tenant → Operand → Tenant
with_operand First t o = record t { first = o }
with_operand Second t o = record t { second = o }

-- The instruction of a tenant
abbrev pub instr : Program → Tenant → Instr
instr P t = instr_of P t.index

-- The kind of a tenant's operation
abbrev pub kind_of : Program → Tenant → Kind
kind_of P t = kind (instr P t).op

-- The tenant is the first of two halves of its instruction
abbrev pub is_first : Program → Tenant → Bool
is_first P t = is_first_half (instr P t).op t.half

-- The register that a tenant writes; 0 where it writes none
abbrev pub destination_of : Program → Tenant → ℕ
destination_of P t = destination (instr P t) t.half

-- All but the squashed are on the path
abbrev pub stands_on_path : Standing → Bool
stands_on_path Squashed = false
stands_on_path _ = true

-- The path is the tenants that are not squashed
abbrev pub on_path : Tenant → Bool
on_path t = stands_on_path t.standing

-- All but those that have left are live
abbrev pub stands_live : Standing → Bool
stands_live Live = true
stands_live _ = false

-- Of the path, those that have not retired
abbrev pub is_live : Tenant → Bool
is_live t = stands_live t.standing

-- The tenant has left
abbrev pub IsNotLive : Tenant → Type 0
IsNotLive t = t.standing ≢ Live

-- The value that a tenant has from the start: a jump that links knows its return address
abbrev pub made_at_let : Kind → ℕ → Option ℕ
made_at_let Links pc = Some (pc_plus_4 pc)
made_at_let _ pc = None

-- A live load or store
abbrev pub is_live_access : Program → Tenant → Bool
is_live_access P t = is_live t && is_access (kind_of P t)

-- A store needs its base alone for a claim, all others need both sources
abbrev pub needs : Kind → Source → Bool
needs Stores Second = false
needs _ k = true

-- The least source that a claim needs and that is not delivered
abbrev pub missing_of : Kind → Option ℕ → Option ℕ → Option Source
missing_of k None second = Some First
missing_of k (Some v) None = if needs k Second then Some Second else None
missing_of k (Some v) (Some w) = None

-- The source that a claim of this tenant would wait for, if there is one
abbrev pub missing : Program → Tenant → Option Source
missing P t = missing_of (kind_of P t) t.first.value t.second.value

-- There is a value
abbrev pub IsThere : Option ℕ → Type 0
IsThere v = (n : ℕ) × (v ≡ Some n)

-- The delivered value, or 0 while there is none
abbrev pub operand_value : Operand → ℕ
operand_value o = unwrap_or o.value 0

-- The outcome of the delivered sources
abbrev pub computed : Program → Tenant → Outcome
computed P t =
    outcome_of (instr P t) t.half t.pc (operand_value t.first) (operand_value t.second)
    (length P.bytes)

-- The pc after a tenant at pc: that of the second half after a first half
abbrev pub behind_by : Bool → ℕ → ℕ
behind_by true pc = pc
behind_by false pc = pc_plus_4 pc

-- The pc after it, where it does not jump
abbrev pub behind : Program → Tenant → ℕ
behind P t = behind_by (is_first P t) t.pc

-- The next pc of an outcome: that of a branch or jump, and of any other the one after
abbrev pub next_by : ℕ → Outcome → ℕ
next_by after (Next x) = x
next_by after _ = after

-- Where it goes on by its outcome
abbrev pub computed_next : Program → Tenant → ℕ
computed_next P t = next_by (behind P t) (computed P t)
