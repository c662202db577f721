-- Where the path goes on.
use Rattle.std.specs.Prelude.{◌≡◌, ℕ, ◌+◌, ◌%◌, ◌-◌, ◌<◌, ◌≤◌, List, [], ◌∷◌, ◌++◌, length, Option, Some, None, if◌then◌else◌, slice_get, is_none}
use Rattle.instructions.specs.Instruction.{destination, fixed_next, is_access, is_first_half, kind, pc_plus_4}
use Rattle.instructions.specs.declared.op.Half.{Half}
use Rattle.inorder.specs.Machine.{write}
use Rattle.inorder.specs.History.{unit_of}
use Rattle.inorder.specs.Unit.{half_after}
use Rattle.front.specs.declared.fetch.Fetched.{Fetched}
use Rattle.front.specs.declared.path.Path.{Path}
use Rattle.front.specs.declared.path.base_state.Base.{Base}
use Rattle.front.specs.declared.path.record.Record.{Record}
use Rattle.front.specs.Trail.{is_link}

-- The record of the youngest tenant
abbrev pub youngest_record : List Record → Option Record
youngest_record records = slice_get records (length records - 1)

-- How many tenants there were when the front last rested: what those have left is in the base
abbrev pub rested_at : Base → ℕ
rested_at base =
    length (unit_of base.rested.value.core.program base.rested.value.core.sizes base.rested.value.seen).tenants

-- Where the path goes on after a tenant, or without one
abbrev pub pc_after : ℕ → Option Record → ℕ
pc_after start None = start
pc_after start (Some x) = x.next

-- The front pc, by the tenants that are kept
abbrev pub pc_behind : Base → List Record → ℕ
pc_behind base records = pc_after base.pc (youngest_record records)

-- The half that comes next after a tenant, or without one
abbrev pub half_behind_last : Half → Option Record → Half
half_behind_last start None = start
half_behind_last start (Some x) = half_after x.first

-- The half that comes next, by the tenants that are kept
abbrev pub next_half : Base → List Record → Half
next_half base records = half_behind_last base.half (youngest_record records)

-- The station after that of a tenant on the ring, or the one to go on at
abbrev pub place_after : ℕ → ℕ → Option Record → ℕ
place_after ring start None = start % ring
place_after ring start (Some x) = (x.station + 1) % ring

-- The next tenant's station
abbrev pub station_of_next : ℕ → Base → List Record → ℕ
station_of_next ring base records = place_after ring base.station (youngest_record records)

-- The value of a tenant that left this one in its station's word: of a jump that links, its return address
abbrev pub made_of : Record → ℕ → ℕ
made_of x left = if x.links then pc_plus_4 x.pc else left

-- The base with what a tenant has made that left this value
abbrev pub with_left : Base → Record → ℕ → Base
with_left base x left =
    record base { registers = write base.registers x.destination (made_of x left) }

-- The oldest goes to the base registers
pub record Released (left : ℕ) (old : Path) (x : Record) (new : Path) : Type 0 where
  pub records : old.records ≡ x ∷ new.records
  pub base : new.base ≡ with_left old.base x left

-- The base says where the path goes on after its last tenant
abbrev pub GoesOnWith : ℕ → Path → Base → Type 0
GoesOnWith ring path base =
    base ≡
    record path.base {
      pc = pc_behind path.base path.records;
      half = next_half path.base path.records;
      station = station_of_next ring path.base path.records;
    }

-- Where all stations have had a tenant, the next one goes to the oldest's station
abbrev pub Releases : ℕ → ℕ → Path → Option Record → Path → Type 0
Releases ring left old None new = (length old.records < ring) × (new ≡ old)
Releases ring left old (Some x) new = (ring ≤ length old.records) × Released left old x new

-- The record of the tenant of an instruction
abbrev pub record_for : Fetched → ℕ → ℕ → Record
record_for f tag predicted =
    record {
      station = f.station;
      tag = tag;
      pc = f.pc;
      next = predicted;
      destination = destination f.instr f.half;
      links = is_link (kind f.instr.op);
      first = is_first_half f.instr.op f.half;
      access = is_access (kind f.instr.op);
      guessed = is_none (fixed_next f.instr f.half f.pc);
    }

-- The youngest goes on elsewhere
abbrev pub YoungestGoesOn : ℕ → List Record → List Record → Type 0
YoungestGoesOn next old new =
    (xs : List Record) (x : Record) → old ≡ xs ++ x ∷ [] → new ≡ xs ++ record x { next = next } ∷ []
