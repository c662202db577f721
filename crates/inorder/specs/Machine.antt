-- The in-order machine: its state, and one step of it.
use Rattle.std.specs.Prelude.{ℕ, zero, suc, ◌+◌, ◌/◌, ◌%◌, List, length, replicate, Option, Some, None, slice_index, slice_set}
use Rattle.instructions.specs.declared.instr.Instr.{Instr}
use Rattle.instructions.specs.declared.stop.Stop.{Stop}
use Rattle.instructions.specs.declared.stop.Stop.TheVariants.{BadPc}
use Rattle.instructions.specs.declared.stop.Outcome.{Outcome}
use Rattle.instructions.specs.declared.stop.Outcome.TheVariants.{Value, Next, Address, Stop as Stops, Pair}
use Rattle.instructions.specs.declared.op.Half.TheVariants.{Low, High}
use Rattle.instructions.specs.declared.op.Kind.{Kind}
use Rattle.instructions.specs.declared.op.Kind.TheVariants.{Stores}
use Rattle.instructions.specs.Registers.{register_count}
use Rattle.instructions.specs.Instruction.{kind, destination, first_of, second_of, width, pc_plus_4}
use Rattle.instructions.specs.Operations.{outcome, loaded}
use Rattle.instructions.specs.Programs.{Program, text_start, instr_at}
use Rattle.lsq.specs.Bytes.{little_endian}

-- registers, data memory, the pc, and how many instructions were run
pub record State : Type 0 where
  pub registers : List ℕ
  pub memory : List ℕ
  pub pc : ℕ
  pub count : ℕ  -- of the instructions run

-- registers 0, memory as the directives give it
abbrev pub start : Program → State
start P =
    record {
      registers = replicate register_count 0;
      memory = P.bytes;
      pc = text_start;
      count = 0;
    }

-- a write to register 0 is dropped
abbrev pub write : List ℕ → ℕ → ℕ → List ℕ
write registers zero v = registers
write registers (suc r) v = slice_set registers (suc r) v

-- memory with the low w bytes of v from an address on
abbrev pub store_bytes : List ℕ → ℕ → ℕ → ℕ → List ℕ
store_bytes memory at zero v = memory
store_bytes memory at (suc w) v = store_bytes (slice_set memory at (v % 256)) (at + 1) w (v / 256)

-- the state after an instruction that writes v and goes on at next
abbrev pub advanced : State → Instr → ℕ → List ℕ → ℕ → State
advanced s i v memory next =
    record {
      registers = write s.registers (destination i Low) v;
      memory = memory;
      pc = next;
      count = suc s.count;
    }

-- the state after a load or store at an address
abbrev pub after_access : Kind → State → Instr → ℕ → State
after_access Stores s i at =
    advanced s i 0 (store_bytes s.memory at (width i.op) (slice_index s.registers (second_of i)))
    (pc_plus_4 s.pc)
after_access _ s i at =
    advanced s i (loaded i.op (little_endian (slice_index s.memory) at (width i.op))) s.memory
    (pc_plus_4 s.pc)

-- the state after an instruction that writes LO and HI
abbrev pub after_pair : State → Instr → ℕ → ℕ → State
after_pair s i low high =
    record {
      registers = write (write s.registers (destination i Low) low) (destination i High) high;
      memory = s.memory;
      pc = pc_plus_4 s.pc;
      count = suc s.count;
    }

-- the result of a step: the next state, or a stop
pub data Ran : Type 0 where
  Goes : State → Ran
  Halts : Stop → Ran

-- an instruction with its outcome
abbrev pub ran : State → Instr → Outcome → Ran
ran s i (Value v) = Goes (advanced s i v s.memory (pc_plus_4 s.pc))
ran s i (Next x) = Goes (advanced s i (pc_plus_4 s.pc) s.memory x)
ran s i (Address at) = Goes (after_access (kind i.op) s i at)
ran s i (Stops c) = Halts c
ran s i (Pair low high) = Goes (after_pair s i low high)

-- the instruction at the pc, if there is one
abbrev pub fetched : Program → State → Option Instr → Ran
fetched P s None = Halts BadPc
fetched P s (Some i) =
    ran s i
    (outcome i s.pc (slice_index s.registers (first_of i)) (slice_index s.registers (second_of i))
    (length P.bytes))

-- one step
abbrev pub step : Program → State → Ran
step P s = fetched P s (instr_at P s.pc)
