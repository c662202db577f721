-- One step of the in-order machine over a text of machine words and over buffers of a caller.
use Rattle.std.specs.Prelude.{◌≡◌, ℕ, ◌-◌, ◌/◌, List, [], Option, None, Some, Result, Ok, Err, ◌==◌, if◌then◌else◌, slice_get}
use Rattle.instructions.specs.declared.instr.Instr.{Instr}
use Rattle.instructions.specs.declared.op.Op.{Op}
use Rattle.instructions.specs.declared.stop.Stop.TheVariants.{BadPc}
use Rattle.instructions.specs.Programs.{text_start, address}
use Rattle.inorder.specs.Machine.{State, Ran, Goes, Halts, fetched}
use Rattle.encoding.specs.Words.{decode, decode_as}
use Rattle.lockstep.specs.declared.stepping.Answer.{Answer}
use Rattle.lockstep.specs.declared.stepping.Answer.TheVariants.{Went, Stopped, NoOperation}

-- the word at an address, if there is one
unfoldable pub word_at : List ℕ → ℕ → Option ℕ
word_at text pc =
    if address ((pc - text_start) / 4) == pc then slice_get text ((pc - text_start) / 4) else None

-- the step of the instruction of a word; none where the word is no operation
abbrev pub step_by : State → Option Instr → Option Ran
step_by s None = None
step_by s (Some i) = Some (fetched (record { code = []; bytes = s.memory }) s (Some i))

-- the step of a word as an instruction of an operation
abbrev pub step_as : Op → ℕ → State → Option Ran
step_as op w s = step_by s (decode_as s.pc w (Some op))

-- the step of the word at the pc
abbrev pub step_at : State → Option ℕ → Option Ran
step_at s None = Some (Halts BadPc)
step_at s (Some w) = step_by s (decode s.pc w)

-- one step over a text of words; none where the word at the pc is no operation
abbrev pub step_over : List ℕ → State → Option Ran
step_over text s = step_at s (word_at text s.pc)

-- a state of these registers, data memory and pc, whose count is 0
abbrev pub machine_state : (registers memory : List ℕ) → ℕ → State
machine_state registers memory pc =
    record { registers = registers; memory = memory; pc = pc; count = 0 }

-- registers, data memory and pc are those of a state
pub record HoldsState (registers memory : List ℕ) (pc : ℕ) (s : State) : Type 0 where
  pub registers_are : registers ≡ s.registers
  pub memory_is : memory ≡ s.memory
  pub pc_is : pc ≡ s.pc

-- the answer of a step and the state after it, which is that before the step unless the instruction was run
abbrev pub IsStepped : State → Answer → (registers memory : List ℕ) → ℕ → Option Ran → Type 0
IsStepped old answer registers memory pc (Some (Goes t)) =
    (answer ≡ Went) × HoldsState registers memory pc t
IsStepped old answer registers memory pc (Some (Halts c)) =
    (answer ≡ Stopped c) × HoldsState registers memory pc old
IsStepped old answer registers memory pc None =
    (answer ≡ NoOperation) × HoldsState registers memory pc old

-- the instruction of the word at an address, or the answer of a step where there is none
abbrev pub IsFetched : (pc : ℕ) → Option ℕ → Result Instr Answer → Type 0
IsFetched pc None result = result ≡ Err (Stopped BadPc)
IsFetched pc (Some w) (Ok i) = decode pc w ≡ Some i
IsFetched pc (Some w) (Err answer) = (decode pc w ≡ None) × (answer ≡ NoOperation)
