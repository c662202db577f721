-- Completed instructions in a ring of slots, and the stores among them.
use Rattle.std.specs.Prelude.{◌≡◌, ◌<◌, ◌≤◌, ◌%◌, bit_and, ℕ, zero, suc, Bool, List, [], ◌∷◌, length, drop, take, Option, Some, None, if◌then◌else◌, slice_get, unwrap_or}
use Rattle.instructions.specs.Instruction.{destination, kind}
use Rattle.instructions.specs.Programs.{Program, instr_at}
use Rattle.instructions.specs.declared.instr.Instr.{Instr}
use Rattle.instructions.specs.declared.op.Kind.{Kind}
use Rattle.instructions.specs.declared.op.Kind.TheVariants.{Jumps, Stores}
use Rattle.instructions.specs.declared.op.Op.TheVariants.{Break}
use Rattle.inorder.specs.Loads.{access_entry, is_store}
use Rattle.lsq.specs.declared.entry.Entry.{Entry}
use Rattle.one_thread.specs.Loads.{address_of, entry_behind, with_entry}
use Rattle.streaming.specs.declared.completed_ring.Completed.{Completed}
use Rattle.one_thread.specs.declared.station.Stage.{Stage}
use Rattle.one_thread.specs.declared.station.Stage.TheVariants.{Addr, Done}
use Rattle.one_thread.specs.declared.station.Station.{Station}

-- Completed instructions, the oldest first, the entries of their stores, the station of the oldest, and how many
-- stations there are
pub record Contents : Type 0 where
  pub completed : List Completed
  pub stores : List Entry
  pub oldest : ℕ
  pub size : ℕ

-- The fields of a ring, whose last station is a mask
pub record IsRing (slots : List Completed) (size last oldest len : ℕ) : Type 0 where
  pub masks : (n : ℕ) → bit_and n last ≡ n % size
  pub begins : oldest < size
  pub most : len ≤ size
  pub small : size ≤ 32
  pub every_slot : length slots ≡ 32

-- What a completed instruction has made, by its value
abbrev pub made_by : Kind → ℕ → Option ℕ
made_by Jumps v = None
made_by Stores v = None
made_by _ v = Some v

-- How far a completed instruction has come
abbrev pub stage_by : Kind → ℕ → Stage
stage_by Stores v = Addr v
stage_by _ v = Done

-- The station of a completed instruction
abbrev pub station_by : Instr → Completed → Station
station_by i c =
    record {
      instr = i;
      half = c.half;
      destination = destination i c.half;
      pc = c.pc;
      predicted = c.predicted;
      next = c.next;
      made = made_by (kind i.op) c.value;
      stage = stage_by (kind i.op) c.value;
    }

-- The instruction at an address where there is one
abbrev pub instr_there : Program → ℕ → Instr
instr_there P pc =
    unwrap_or (instr_at P pc) (record { op = Break; target = 0; first = 0; second = 0; number = 0 })

-- The station of a completed instruction of a program
abbrev pub station_in : Program → Completed → Station
station_in P c = station_by (instr_there P c.pc) c

-- The stations of several
abbrev pub stations : Program → List Completed → List Station
stations P [] = []
stations P (c ∷ cs) = station_in P c ∷ stations P cs

-- A station is that of a store
abbrev pub is_stored : Station → Bool
is_stored w = is_store (kind w.instr.op)

-- The entry of a station, if it is that of a store with this content
abbrev pub store_with : Station → ℕ → Option Entry
store_with w content =
    if is_stored w then Some (access_entry w.instr.op (address_of w.stage) (Some content)) else None

-- The entries after the oldest station, where that has left
abbrev pub stores_behind : Station → List Entry → List Entry
stores_behind w es = if is_stored w then drop 1 es else es

-- What the queue holds of station i, if that is a store
abbrev pub store_at : List ℕ → List Station → Option Station → ℕ → Option Entry
store_at registers W None i = None
store_at registers W (Some w) i = if is_stored w then Some (entry_behind registers (take i W) w) else None

-- The entries of the stores among the first k stations
abbrev pub stores : List ℕ → List Station → ℕ → List Entry
stores registers W zero = []
stores registers W (suc k) = with_entry (stores registers W k) (store_at registers W (slice_get W k) k)
