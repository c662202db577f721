-- The oldest instruction of a flow retires.
use Rattle.std.specs.Prelude.{◌≡◌, ◌<◌, ℕ, suc, ◌+◌, ◌-◌, ◌*◌, ◌%◌, Bool, true, false, List, length, Option, Some, None, is_none, unwrap_or, if◌then◌else◌, slice_get}
use Rattle.instructions.specs.Instruction.{width}
use Rattle.instructions.specs.declared.end.Ending.{Ending}
use Rattle.instructions.specs.declared.guessing.Leaver.{Leaver}
use Rattle.instructions.specs.declared.op.Op.{Op}
use Rattle.inorder.specs.Committed.{ahead_by}
use Rattle.inorder.specs.Machine.{State, store_bytes}
use Rattle.one_thread.specs.Changes.{run_from}
use Rattle.streaming.specs.Flow.{Flows, in_order, with_leaver}
use Rattle.one_thread.specs.Leaves.{with_station}
use Rattle.streaming.specs.declared.flow.Flow.{Flow}
use Rattle.one_thread.specs.declared.pipeline.Pipeline.{Pipeline}
use Rattle.one_thread.specs.declared.station.Stage.{Stage}
use Rattle.one_thread.specs.declared.station.Stage.TheVariants.{Addr}
use Rattle.one_thread.specs.declared.station.Station.{Station}

-- What the oldest tenant commits where all have completed: a first half nothing, any other with what waits for LO
abbrev pub committed_by : Bool → Station → Option ℕ → State → State
committed_by true w low s = s
committed_by false w low s = with_station w (ahead_by low s)

-- What waits for LO after it
abbrev pub low_by : Bool → Station → Option ℕ
low_by true w = Some (unwrap_or w.made 0)
low_by false w = None

-- The memory after a station that has kept this
abbrev pub memory_kept : Op → Stage → ℕ → List ℕ → List ℕ
memory_kept op (Addr a) kept memory = store_bytes memory a (width op) kept
memory_kept op _ kept memory = memory

-- What the oldest tenant commits but for its register, which holds that since it has completed
abbrev pub passed_by : Bool → Station → ℕ → State → State
passed_by true w kept s = s
passed_by false w kept s =
    record s { memory = memory_kept w.instr.op w.stage kept s.memory; pc = w.next; count = suc s.count }

-- What LO holds after it while a value waits: what a first half has kept
abbrev pub held_by : Bool → ℕ → ℕ → ℕ
held_by true kept held = kept
held_by false kept held = held

-- How many retirements there are up to a limit at the most
abbrev pub to_do : ℕ → Pipeline → ℕ
to_do limit b = (limit - b.committed.count) * 2 + (if is_none b.low then 1 else 0)

-- How much there is to do up to a limit at the most, where an instruction that enters is something done
abbrev pub ahead_to : ℕ → Pipeline → Flow → ℕ
ahead_to limit b flow = to_do limit b * 64 + (32 - length flow.ring.completed)

-- The run from a flow until the count has reached a limit
abbrev pub run_in : Pipeline → Flow → ℕ → Ending × State
run_in b flow limit = run_from (in_order b flow) limit

-- The oldest instruction of a flow has retired, and this is to be told of who has left its station
pub record OldestRetired (b : Pipeline) (flow : Flow) (left : Option Leaver) (later : Pipeline) (after : Flow) : Type 0 where
  pub flows : Flows (with_leaver flow.ring.oldest left later) after
  pub shorter : length flow.ring.completed ≡ suc (length after.ring.completed)
  pub untold : slice_get later.leavers flow.ring.oldest ≡ Some None
  pub inside : flow.ring.oldest < b.ring
  pub place : after.ring.oldest ≡ (flow.ring.oldest + 1) % b.ring
  pub ring : later.ring ≡ b.ring
  pub code : later.code ≡ b.code
  pub program : later.program ≡ b.program
  pub ends : (limit : ℕ) → b.committed.count < limit → run_in later after limit ≡ run_in b flow limit
  pub less : (limit : ℕ) → b.committed.count < limit → to_do limit later < to_do limit b
