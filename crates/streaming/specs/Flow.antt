-- The flow: how the next instruction enters it and completes.
use Rattle.std.specs.Prelude.{⊤, ◌≡◌, ◌≢◌, ◌≤◌, ◌<◌, ℕ, ◌+◌, ◌%◌, suc, Bool, true, false, List, [], ◌∷◌, ◌++◌, length, Option, Some, None, is_some, slice_get, slice_set}
use Rattle.instructions.specs.Instruction.{destination, is_first_half, kind, width}
use Rattle.instructions.specs.Operations.{outcome_of}
use Rattle.instructions.specs.Programs.{Program, instr_at}
use Rattle.instructions.specs.Registers.{lo}
use Rattle.instructions.specs.declared.instr.Instr.{Instr}
use Rattle.instructions.specs.declared.op.Kind.{Kind}
use Rattle.instructions.specs.declared.op.Kind.TheVariants.{Loads as LoadKind}
use Rattle.instructions.specs.declared.op.Op.{Op}
use Rattle.instructions.specs.declared.guessing.Leaver.{Leaver}
use Rattle.instructions.specs.declared.stop.Outcome.{Outcome}
use Rattle.instructions.specs.declared.stop.Outcome.TheVariants.{Address, Next}
use Rattle.instructions.specs.declared.stop.Stop.{Stop}
use Rattle.lsq.specs.LoadRule.{answer_over}
use Rattle.lsq.specs.declared.entry.Entry.{Entry}
use Rattle.one_thread.specs.Changes.{registers_of}
use Rattle.streaming.specs.CompletedRing.{made_by, station_by, stations, store_with, stores}
use Rattle.streaming.specs.Kept.{HaveKept, registers_before, with_held}
use Rattle.inorder.specs.Machine.{write}
use Rattle.inorder.specs.Unit.{half_after}
use Rattle.one_thread.specs.Loads.{value_by, with_entry}
use Rattle.one_thread.specs.Notes.{settled_by}
use Rattle.one_thread.specs.StandsFor.{StandsForSome}
use Rattle.streaming.specs.Futures.{Foresees, GoesOnBehind}
use Rattle.streaming.specs.Slots.{slot_in}
use Rattle.streaming.specs.Reopened.{reopened, with_reopened}
use Rattle.one_thread.specs.Window.{access_of, accesses, further_on, half_in, let_at, reaches_memory, station_after}
use Rattle.streaming.specs.declared.completing.Done.{Done}
use Rattle.one_thread.specs.declared.execute.Operands.{Operands}
use Rattle.streaming.specs.declared.flow.Flow.{Flow}
use Rattle.streaming.specs.declared.completed_ring.Completed.{Completed}
use Rattle.one_thread.specs.declared.leaves.Leaves.{Leaves}
use Rattle.one_thread.specs.declared.leaves.Leaves.TheVariants.{Any}
use Rattle.one_thread.specs.declared.pipeline.Pipeline.{Pipeline}
use Rattle.one_thread.specs.declared.station.Stage.TheVariants.{Done as IsDone, Stops}
use Rattle.one_thread.specs.declared.station.Station.{Station}

-- What a load of an address gets after these stores, if none blocks it
abbrev pub loaded_behind : Kind → List Entry → List ℕ → Op → ℕ → Option ℕ
loaded_behind LoadKind es memory op a = value_by (answer_over es a (width op)) memory op a
loaded_behind _ es memory op a = None

-- What an outcome loads
abbrev pub load_of : List Entry → List ℕ → Op → Outcome → Option ℕ
load_of es memory op (Address a) = loaded_behind (kind op) es memory op a
load_of es memory op _ = None

-- The result at a station, by its outcome and what that loads, where it is the only one that has not completed:
-- a miss is mended
abbrev pub completed_by : Station → Outcome → Option ℕ → Station
completed_by w (Next x) value = record w { stage = IsDone; next = x }
completed_by w (Address a) (Some v) = further_on w IsDone (Some v)
completed_by w o value = station_after w o

-- A station has completed: it has ended, and by no stop, and has made what it writes
pub record HasCompleted (w : Station) : Type 0 where
  pub resolved : settled_by (kind w.instr.op) w.stage ≡ true
  pub goes_on : (c : Stop) → w.stage ≢ Stops c
  pub made : w.destination ≢ 0 → is_some w.made ≡ true

-- A first half writes LO
abbrev pub WritesLow : Station → Type 0
WritesLow w = is_first_half w.instr.op w.half ≡ true → w.destination ≡ lo

-- All stations of a list have completed
abbrev pub HaveCompleted : List Station → Type 0
HaveCompleted W = (k : ℕ) (w : Station) → slice_get W k ≡ Some w → HasCompleted w × WritesLow w

-- The fields with these stations in the window
abbrev pub filled : Pipeline → List Station → Pipeline
filled b W = record b { window = W }

-- The stations of a flow
abbrev pub window_of : Pipeline → Flow → List Station
window_of b flow = stations b.program.now flow.ring.completed

-- An instruction stands at the address of each of these
abbrev pub AreThere : Program → List Completed → Type 0
AreThere P cs = (k : ℕ) (c : Completed) → slice_get cs k ≡ Some c → is_some (instr_at P c.pc) ≡ true

-- All stations of a flow have completed, and this is what the next instruction finds
pub record IsFlowing (b : Pipeline) (flow : Flow) : Type 0 where
  pub goes_on : b.over ≡ None
  pub there : AreThere b.program.now flow.ring.completed
  pub completed : HaveCompleted (window_of b flow)
  pub foresees : Foresees flow.future (registers_of b) b.committed.pc (window_of b flow)
  pub half : flow.half ≡ half_in b.low (window_of b flow)
  pub stores : flow.ring.stores ≡ stores (registers_of b) (window_of b flow) (length (window_of b flow))
  pub accesses : flow.accesses ≡ accesses (window_of b flow) (length (window_of b flow))

-- A flow stands for the window
pub record IsFlow (b : Pipeline) (flow : Flow) : Type 0 where
  pub unit : StandsForSome (filled b (window_of b flow))
  pub flowing : IsFlowing b flow
  pub last : flow.last ≡ None
  pub most : length (window_of b flow) ≤ b.ring
  pub two : 2 ≤ b.ring

-- All but the oldest n can be reset to fetched only
pub record Reopens (b : Pipeline) (flow : Flow) (n : ℕ) : Type 0 where
  pub inside : n ≤ length (window_of b flow)
  pub unit : StandsForSome (with_reopened n (filled b (window_of b flow)))

-- The fields of a unit in a flow: its registers are those that the oldest instruction found, and the flow knows where
-- that stands
abbrev pub in_order : Pipeline → Flow → Pipeline
in_order b flow =
    record b {
      committed = record b.committed {
        registers = with_held b.low flow.held (registers_before b.program.now flow.ring.completed flow.future.values);
      };
      oldest = flow.ring.oldest;
    }

-- A flow stands for the window, and keeps what the registers have held
pub record Flows (b : Pipeline) (flow : Flow) : Type 0 where
  pub flows : IsFlow (in_order b flow) flow
  pub kept : HaveKept b.program.now (registers_of (in_order b flow)) flow.ring.completed flow.future.values
  pub size : flow.ring.size ≡ b.ring

-- The next instruction can enter
pub record CanEnter (b : Pipeline) (flow : Flow) : Type 0 where
  pub instr : Instr
  pub is : instr_at b.program.now flow.future.pc ≡ Some instr
  pub free : reaches_memory instr.op ≡ true → flow.accesses < b.queue
  pub room : length (window_of b flow) < b.ring

-- The fields where it is untold who has left a station
abbrev pub with_leaver : ℕ → Option Leaver → Pipeline → Pipeline
with_leaver station left b = record b { leavers = slice_set b.leavers station left }

-- The next instruction can enter, and who has left its station was told of
pub record IsPlaced (b : Pipeline) (flow : Flow) : Type 0 where
  pub before : Pipeline
  pub flows : Flows before flow
  pub can : CanEnter before flow
  pub from : ℕ
  pub reopens : Reopens (in_order before flow) flow from
  pub leavers :
      b.leavers ≡ slice_set before.leavers ((flow.ring.oldest + length (window_of before flow)) % before.ring) None
  pub rest : b ≡ record before { leavers = b.leavers }

-- This is the station of the next instruction, and all but the oldest n can also be taken to be let alone
pub record HasPlace (b : Pipeline) (flow : Flow) (n station : ℕ) : Type 0 where
  pub placed : IsPlaced b flow
  pub same : placed.from ≡ n
  pub small : station < 32
  pub is : station ≡ slot_in flow.ring.size flow.ring.oldest (length flow.ring.completed)

-- What can be done next, if there is an instruction
abbrev pub Upcoming : Pipeline → Flow → Option Bool → Type 0
Upcoming b flow None = ⊤
Upcoming b flow (Some true) = CanEnter b flow
Upcoming b flow (Some false) = 2 ≤ length (window_of b flow)

-- The next instruction as one that has completed, and keeps this
abbrev pub completed_as : Flow → ℕ → Done → Leaves → ℕ → Completed
completed_as flow predicted d leaves kept =
    record {
      pc = flow.future.pc;
      half = flow.half;
      leaves = leaves;
      predicted = predicted;
      next = d.next;
      value = d.value;
      kept = kept;
    }

-- A completed instruction has joined a flow, with its content, if it is a store
pub record HasJoined (flow after : Flow) (i : Instr) (c : Completed) (content : ℕ) : Type 0 where
  pub completed : after.ring.completed ≡ flow.ring.completed ++ c ∷ []
  pub last : after.last ≡ flow.last
  pub stores : after.ring.stores ≡ with_entry flow.ring.stores (store_with (station_by i c) content)
  pub held : after.held ≡ flow.held
  pub oldest : after.ring.oldest ≡ flow.ring.oldest
  pub size : after.ring.size ≡ flow.ring.size
  pub values : after.future.values ≡ write flow.future.values (destination i c.half) c.value
  pub future : GoesOnBehind flow.future (destination i c.half) (made_by (kind i.op) c.value) c.next after.future
  pub half : after.half ≡ half_after (is_first_half i.op c.half)
  pub accesses : after.accesses ≡ flow.accesses + access_of i

-- The station of the next instruction as it is let
abbrev pub enters_as : Flow → Instr → ℕ → Station
enters_as flow i predicted = let_at i flow.half flow.future.pc predicted

-- The outcome of the next instruction
abbrev pub outcome_in : Pipeline → Flow → Instr → Operands → Outcome
outcome_in b flow i o = outcome_of i flow.half flow.future.pc o.a o.b (length b.program.now.bytes)

-- The station of the next instruction
abbrev pub comes_to : Pipeline → Flow → Instr → ℕ → Operands → Station
comes_to b flow i predicted o =
    completed_by (enters_as flow i predicted) (outcome_in b flow i o)
    (load_of flow.ring.stores b.committed.memory i.op (outcome_in b flow i o))

-- What an instruction completes with, if it does
abbrev pub Completes : Pipeline → Flow → Instr → ℕ → Operands → Option Done → Type 0
Completes b flow i predicted o None = ⊤
Completes b flow i predicted o (Some d) =
    comes_to b flow i predicted o ≡ station_by i (completed_as flow predicted d Any 0)

-- The stations of a flow, and one more
abbrev pub with_last : List Station → Option Station → List Station
with_last W None = W
with_last W (Some w) = W ++ w ∷ []

-- The fields that a flow leaves, in which all but the oldest n are as they were let
abbrev pub restored : Pipeline → Flow → ℕ → Pipeline
restored b flow n =
    record b { window = with_last (reopened n (window_of b flow)) flow.last }

-- The fields that a flow leaves are those of some unit
pub record CanRestore (b : Pipeline) (flow : Flow) (n : ℕ) : Type 0 where
  pub unit : StandsForSome (restored b flow n)
  pub there : AreThere b.program.now flow.ring.completed
  pub all : length flow.future.values ≡ 34
  pub room : (w : Station) → flow.last ≡ Some w → length flow.ring.completed < 32

-- An instruction has entered and has completed, after which all but the oldest n can also be taken to be let alone
pub record HasCompletedIn (b : Pipeline) (flow after : Flow) (n : ℕ) : Type 0 where
  pub flows : Flows b after
  pub reopens : Reopens (in_order b after) after n
  pub longer : length after.ring.completed ≡ suc (length flow.ring.completed)

-- The next instruction is left as it was let
pub record IsLeftOpen (b : Pipeline) (flow after : Flow) (n : ℕ) : Type 0 where
  pub restores : CanRestore (in_order b after) after n
  pub same : length after.ring.completed ≡ length flow.ring.completed

-- An instruction has entered, and this number have completed for good, or it is left as it was let
abbrev pub HasEntered : Pipeline → (flow after : Flow) → ℕ → Option ℕ → Type 0
HasEntered b flow after n (Some closed) = HasCompletedIn b flow after closed
HasEntered b flow after n None = IsLeftOpen b flow after n

-- All of a flow have completed for good, or the last one is left as it was let
abbrev pub HasGoneRound : Pipeline → Flow → Bool → Type 0
HasGoneRound b flow true = Flows b flow
HasGoneRound b flow false = CanRestore (in_order b flow) flow (length flow.ring.completed)
