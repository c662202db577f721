-- The live tenants as a list of stations, the oldest first, and what one of them reads.
use Rattle.std.specs.Prelude.{ℕ, zero, suc, ◌+◌, ◌-◌, Bool, List, [], ◌∷◌, ◌++◌, length, Option, Some, None, ◌==◌, if◌then◌else◌, slice_index, slice_get, unwrap_or}
use Rattle.instructions.specs.Instruction.{destination, first_of, is_access, is_first_half, kind, second_of}
use Rattle.instructions.specs.Programs.{Program}
use Rattle.instructions.specs.declared.instr.Instr.{Instr}
use Rattle.instructions.specs.declared.op.Half.{Half}
use Rattle.instructions.specs.declared.op.Kind.{Kind}
use Rattle.instructions.specs.declared.op.Kind.TheVariants.{Stores as StoreKind}
use Rattle.instructions.specs.declared.op.Op.{Op}
use Rattle.instructions.specs.declared.stop.Outcome.{Outcome}
use Rattle.instructions.specs.declared.stop.Outcome.TheVariants.{Address, Next, Pair, Stop, Value}
use Rattle.inorder.specs.Tenants.{Fate, Tenant, destination_of, instr, is_live, made_at_let}
use Rattle.inorder.specs.Tenants.{Open as OpenFate, Busy, Addr as AddrFate, Done as DoneFate, Miss as MissFate, Stopped, Guessed}
use Rattle.inorder.specs.Unit.{can_be_written, half_after}
use Rattle.one_thread.specs.declared.execute.Operands.{Operands}
use Rattle.one_thread.specs.declared.station.Stage.{Stage}
use Rattle.one_thread.specs.declared.station.Stage.TheVariants.{Open, Addr, Done, Miss, Stops}
use Rattle.one_thread.specs.declared.station.Station.{Station}
use Rattle.one_thread.specs.Ahead.{waiting_half}

-- How far a tenant has come, as its station says it
abbrev pub stage_of : Fate → Stage
stage_of OpenFate = Open
stage_of (Busy by) = Open
stage_of (AddrFate a) = Addr a
stage_of (DoneFate v) = Done
stage_of (MissFate x) = Miss x
stage_of (Guessed v) = Open
stage_of (Stopped c) = Stops c

-- What a station keeps of its tenant
abbrev pub station_of : Program → Tenant → Station
station_of P t =
    record {
      instr = instr P t;
      half = t.half;
      destination = destination_of P t;
      pc = t.pc;
      predicted = t.predicted;
      next = t.next;
      made = t.made;
      stage = stage_of t.fate;
    }

-- The stations of the live tenants, the oldest first
abbrev pub window : Program → List Tenant → List Station
window P [] = []
window P (t ∷ ts) = if is_live t then window P ts ++ station_of P t ∷ [] else window P ts

-- What register r holds after a station, where it held v before it; none while its writer has made nothing
abbrev pub register_after : ℕ → Option ℕ → Option Station → Option ℕ
register_after r v None = v
register_after r v (Some w) = if w.destination == r then w.made else v

-- What register r holds after several stations, the oldest first
abbrev pub register_in : ℕ → Option ℕ → List Station → Option ℕ
register_in r v [] = v
register_in r v (w ∷ ws) = register_in r (register_after r v (Some w)) ws

-- What an instruction after these stations reads from register r
abbrev pub source_in : List ℕ → List Station → ℕ → Option ℕ
source_in registers ws r =
    if can_be_written r then register_in r (Some (slice_index registers r)) ws else Some 0

-- What a claim needs, if it is there; 0 for a store's data that is not there yet
abbrev pub operands_by : Kind → Option ℕ → Option ℕ → Option Operands
operands_by StoreKind (Some a) b = Some (record { a = a; b = unwrap_or b 0 })
operands_by _ (Some a) (Some b) = Some (record { a = a; b = b })
operands_by _ _ _ = None

-- The operands of a station that nobody has claimed
abbrev pub where_open : Stage → Option Operands → Option Operands
where_open Open o = o
where_open _ o = None

-- The sources of a station after these, if it can be claimed
abbrev pub operands_in : List ℕ → List Station → Station → Option Operands
operands_in registers ws w =
    where_open w.stage
    (operands_by (kind w.instr.op) (source_in registers ws (first_of w.instr))
    (source_in registers ws (second_of w.instr)))

-- How far a station has come by an outcome, where this next pc was predicted
abbrev pub stage_after : Outcome → ℕ → Stage
stage_after (Value v) predicted = Done
stage_after (Next x) predicted = if x == predicted then Done else Miss x
stage_after (Address a) predicted = Addr a
stage_after (Stop c) predicted = Stops c
stage_after (Pair low high) predicted = Done

-- What it has made by an outcome, where this was made before
abbrev pub made_after : Outcome → Option ℕ → Option ℕ
made_after (Value v) made = Some v
made_after (Pair low high) made = Some low
made_after _ made = made

-- A station that has come further
abbrev pub further_on : Station → Stage → Option ℕ → Station
further_on w stage made = record w { stage = stage; made = made }

-- What a station becomes by its outcome
abbrev pub station_after : Station → Outcome → Station
station_after w o = further_on w (stage_after o w.predicted) (made_after o w.made)

-- The computed next pc of a miss
abbrev pub miss_of : Stage → Option ℕ
miss_of (Miss x) = Some x
miss_of _ = None

-- A miss that goes on where it has to
abbrev pub station_mended : Station → ℕ → Station
station_mended w x = record w { stage = Done; next = x }

-- The station of a half of an instruction that is let at a pc
abbrev pub let_at : Instr → Half → ℕ → ℕ → Station
let_at i half pc predicted =
    record {
      instr = i;
      half = half;
      destination = destination i half;
      pc = pc;
      predicted = predicted;
      next = predicted;
      made = made_at_let (kind i.op) pc;
      stage = Open;
    }

-- Where the path goes on after the youngest station, or at a pc where there is none
abbrev pub next_after : ℕ → Option Station → ℕ
next_after pc None = pc
next_after pc (Some w) = w.next

-- Where the path goes on, from the committed pc
abbrev pub next_in : ℕ → List Station → ℕ
next_in pc ws = next_after pc (slice_get ws (length ws - 1))

-- The half that comes after the youngest station: after a first half its second. Where there is
-- none, it is the second if a first half waits for it
abbrev pub half_behind : Option ℕ → Option Station → Half
half_behind low None = waiting_half low
half_behind low (Some w) = half_after (is_first_half w.instr.op w.half)

-- The half that comes next on the path
abbrev pub half_in : Option ℕ → List Station → Half
half_in low ws = half_behind low (slice_get ws (length ws - 1))

-- A load or a store
abbrev pub reaches_memory : Op → Bool
reaches_memory op = is_access (kind op)

-- 1 for an instruction that reaches memory, else 0
abbrev pub access_of : Instr → ℕ
access_of i = if reaches_memory i.op then 1 else 0

-- 1 for a station that reaches memory, else 0
abbrev pub access_at : Option Station → ℕ
access_at None = 0
access_at (Some w) = access_of w.instr

-- How many of the first k stations reach memory
abbrev pub accesses : List Station → ℕ → ℕ
accesses ws zero = 0
accesses ws (suc k) = accesses ws k + access_at (slice_get ws k)
