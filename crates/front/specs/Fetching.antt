-- What is known of the next instruction before it is let.
use Rattle.std.specs.Prelude.{◌≡◌, ℕ, ◌<◌, ◌≤◌, true, List, ◌∷◌, length, Some}
use Rattle.instructions.specs.Instruction.{is_access, kind}
use Rattle.instructions.specs.Programs.{Program, instr_at}
use Rattle.inorder.specs.declared.history.Entry.{Entry}
use Rattle.inorder.specs.History.{unit_of}
use Rattle.inorder.specs.Replies.{last_tag}
use Rattle.inorder.specs.StationWords.{left_value}
use Rattle.inorder.specs.Tenants.{Retired, Tenant}
use Rattle.inorder.specs.Unit.{Sizes, UpdateUnit, front_half, front_pc, next_station, next_tag, recent}
use Rattle.ruu_words.specs.Content.{HasValue}
use Rattle.ruu_words.specs.Kinds.{IsTenant}
use Rattle.front.specs.declared.fetch.Fetched.{Fetched}
use Rattle.front.specs.declared.path.record.Record.{Record}
use Rattle.front.specs.Queues.{how_many_accesses}

-- The tenant has retired, and left this value
pub record HasLeft (left : ℕ) (t : Tenant) : Type 0 where
  pub retired : t.standing ≡ Retired
  pub value : HasValue (left_value t.fate t.made) left

-- The tenant of this record has retired, and left this value
pub record IsLeft (U : UpdateUnit) (x : Record) (left : ℕ) : Type 0 where
  pub p : ℕ
  pub tenant : IsTenant U p x.station x.tag (HasLeft left)

-- The instruction can be let to the next station
pub record CanBeLet (P : Program) (C : Sizes) (seen : List Entry) (f : Fetched) : Type 0 where
  pub station : f.station ≡ next_station C (recent (unit_of P C seen))
  pub small : f.station < C.ring
  pub tag : next_tag C (recent (unit_of P C seen)) < last_tag
  pub pc : f.pc ≡ front_pc (unit_of P C seen).tenants
  pub half : f.half ≡ front_half P (unit_of P C seen).tenants
  pub instr : instr_at P f.pc ≡ Some f.instr
  pub queue : is_access (kind f.instr.op) ≡ true → how_many_accesses P (unit_of P C seen) < C.queue

-- Where all stations have had a tenant, the oldest has left
abbrev pub OldestLeft : Sizes → UpdateUnit → List Record → ℕ → Type 0
OldestLeft C U records left =
    (x : Record) (xs : List Record) → records ≡ x ∷ xs → C.ring ≤ length records → IsLeft U x left

-- In what was seen the instruction can be let, and the oldest has left if all stations have had a tenant
pub record CanFetch (P : Program) (C : Sizes) (seen : List Entry) (records : List Record) (f : Fetched) : Type 0 where
  pub next : CanBeLet P C seen f
  pub oldest : OldestLeft C (unit_of P C seen) records f.last_value
