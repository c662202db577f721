-- How the oldest station leaves.
use Rattle.std.specs.Prelude.{⊤, ◌≡◌, ◌≤◌, ◌+◌, ◌%◌, ℕ, suc, Bool, true, false, List, [], drop, Option, Some, None, unwrap_or, slice_set}
use Rattle.instructions.specs.Instruction.{is_first_half, second_of, width}
use Rattle.instructions.specs.declared.instr.Instr.{Instr}
use Rattle.instructions.specs.declared.stop.Stop.{Stop}
use Rattle.instructions.specs.declared.stop.Stop.TheVariants.{BadPc}
use Rattle.inorder.specs.Machine.{State, store_bytes, write}
use Rattle.one_thread.specs.declared.bench.Turn.{Turn}
use Rattle.one_thread.specs.declared.bench.Turn.TheVariants.{Halved, Over, Retired}
use Rattle.one_thread.specs.declared.pipeline.Pipeline.{Pipeline}
use Rattle.one_thread.specs.declared.station.Stage.{Stage}
use Rattle.one_thread.specs.declared.station.Stage.TheVariants.{Addr, Done, Stops}
use Rattle.one_thread.specs.declared.station.Station.{Station}
use Rattle.instructions.specs.declared.guessing.Leaver.{Leaver}
use Rattle.one_thread.specs.Changes.{ahead_of}
use Rattle.one_thread.specs.Leavers.{told_at}
use Rattle.one_thread.specs.Window.{source_in}

-- A station has ended: it is done, a stop, or an access inside a memory of this size
abbrev pub HasEnded : ℕ → Instr → Stage → Type 0
HasEnded size i Done = ⊤
HasEnded size i (Stops c) = ⊤
HasEnded size i (Addr a) = a + width i.op ≤ size
HasEnded size i _ = ⊥

-- The oldest station, if there is one, has ended
abbrev pub OldestHasEnded : ℕ → Option Station → Type 0
OldestHasEnded size None = ⊤
OldestHasEnded size (Some w) = HasEnded size w.instr w.stage

-- The memory after a station: a store writes its data
abbrev pub memory_with : Instr → Stage → List ℕ → List ℕ → List ℕ
memory_with i (Addr a) registers memory =
    store_bytes memory a (width i.op) (unwrap_or (source_in registers [] (second_of i)) 0)
memory_with i _ registers memory = memory

-- The committed state after a station
abbrev pub with_station : Station → State → State
with_station w s =
    record {
      registers = write s.registers w.destination (unwrap_or w.made 0);
      memory = memory_with w.instr w.stage s.registers s.memory;
      pc = w.next;
      count = suc s.count;
    }

-- The fields where the oldest station is free again
abbrev pub shifted : Pipeline → Pipeline
shifted b =
    record b {
      window = drop 1 b.window;
      oldest = (b.oldest + 1) % b.ring;
    }

-- The fields after a stop that retires
abbrev pub ended : Pipeline → Stop → Pipeline
ended b c = record (shifted b) { over = Some c }

-- Who has left each station, after one that retires from the oldest
abbrev pub leavers_with : Pipeline → Station → List (Option Leaver)
leavers_with b w = slice_set b.leavers b.oldest (told_at w)

-- The fields after a first half that retires: what it made waits
abbrev pub halved : Pipeline → Station → Pipeline
halved b w =
    record (shifted b) { leavers = leavers_with b w; low = Some (unwrap_or w.made 0) }

-- The fields after any other station that retires: what waited is committed with it
abbrev pub left : Pipeline → Station → Pipeline
left b w =
    record (shifted b) {
      committed = with_station w (ahead_of b);
      leavers = leavers_with b w;
      low = None;
    }

-- What a station that is no stop leaves behind, where it is a first half or not
abbrev pub PassesTo : Bool → Pipeline → Station → Turn → Pipeline → Type 0
PassesTo true b w answer later = (answer ≡ Halved) × (later ≡ halved b w)
PassesTo false b w answer later = (answer ≡ Retired) × (later ≡ left b w)

-- What the oldest station leaves behind, by how far it has come
abbrev pub LeavesTo : Pipeline → Station → Stage → Turn → Pipeline → Type 0
LeavesTo b w (Stops c) answer later = (answer ≡ Over c) × (later ≡ ended b c)
LeavesTo b w _ answer later = PassesTo (is_first_half w.instr.op w.half) b w answer later

-- What a retirement answers and leaves: without a station there is no instruction
abbrev pub RetiresTo : Pipeline → Option Station → Turn → Pipeline → Type 0
RetiresTo b None answer later = (answer ≡ Over BadPc) × (later ≡ b)
RetiresTo b (Some w) answer later = LeavesTo b w w.stage answer later
