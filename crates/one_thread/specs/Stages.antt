-- What each stage of a turn does to the window.
use Rattle.std.specs.Prelude.{◌≡◌, ◌<◌, ◌≤◌, ℕ, true, List, [], ◌∷◌, ◌++◌, length, take, Option, Some, None, slice_get}
use Rattle.instructions.specs.Programs.{Program, instr_at}
use Rattle.instructions.specs.declared.instr.Instr.{Instr}
use Rattle.one_thread.specs.declared.dispatch.Fetched.{Fetched}
use Rattle.one_thread.specs.declared.execute.Ready.{Ready}
use Rattle.one_thread.specs.declared.memory_port.Answered.{Answered}
use Rattle.one_thread.specs.declared.window.Missed.{Missed}
use Rattle.one_thread.specs.declared.station.Station.{Station}
use Rattle.one_thread.specs.Producers.{FirstGives, NoneGives}
use Rattle.one_thread.specs.Loads.{load_in}
use Rattle.one_thread.specs.Notes.{miss_in}
use Rattle.one_thread.specs.Window.{accesses, half_in, next_in, operands_in, reaches_memory, station_mended}

-- The oldest miss is mended, and all after it are gone
pub record RecoversTo (W W' : List Station) : Type 0 where
  pub i : ℕ
  pub w : Station
  pub x : ℕ
  pub first : FirstGives miss_in W i x
  pub is : slice_get W i ≡ Some w
  pub new : W' ≡ take i W ++ station_mended w x ∷ []

-- The next instruction can be let
pub record CanLet (P : Program) (ring queue pc : ℕ) (low : Option ℕ) (W : List Station)
    (f : Fetched) : Type 0 where
  pub room : length W < ring
  pub place : f.pc ≡ next_in pc W
  pub half : f.half ≡ half_in low W
  pub is : instr_at P f.pc ≡ Some f.instr
  pub free : reaches_memory f.instr.op ≡ true → accesses W (length W) < queue

-- There is an instruction, but it reaches memory and the queue is full
pub record IsQueueFull (P : Program) (queue pc : ℕ) (W : List Station) : Type 0 where
  pub instr : Instr
  pub is : instr_at P (next_in pc W) ≡ Some instr
  pub reaches : reaches_memory instr.op ≡ true
  pub full : queue ≤ accesses W (length W)

-- No room, no instruction, or no room in the queue
pub data CannotLet (P : Program) (ring queue pc : ℕ) (W : List Station) : Type 0 where
  NoRoom : ring ≤ length W → CannotLet P ring queue pc W
  NoInstr : instr_at P (next_in pc W) ≡ None → CannotLet P ring queue pc W
  QueueFull : IsQueueFull P queue pc W → CannotLet P ring queue pc W

-- What can be let next, or that nothing can
abbrev pub NextIs : Program → ℕ → ℕ → ℕ → Option ℕ → List Station → Option Fetched → Type 0
NextIs P ring queue pc low W None = CannotLet P ring queue pc W
NextIs P ring queue pc low W (Some f) = CanLet P ring queue pc low W f

-- The oldest station that can be claimed, or that there is none
abbrev pub FirstReady : List ℕ → List Station → Option Ready → Type 0
FirstReady registers W None = NoneGives (operands_in registers) W
FirstReady registers W (Some r) = FirstGives (operands_in registers) W r.at r.operands

-- The oldest load that is not blocked, or that there is none
abbrev pub FirstAnswered : List ℕ → List ℕ → List Station → Option Answered → Type 0
FirstAnswered registers memory W None = NoneGives (load_in registers memory) W
FirstAnswered registers memory W (Some l) = FirstGives (load_in registers memory) W l.at l.value

-- The oldest miss, or that there is none
abbrev pub FirstMiss : List Station → Option Missed → Type 0
FirstMiss W None = NoneGives miss_in W
FirstMiss W (Some m) = FirstGives miss_in W m.at m.next
