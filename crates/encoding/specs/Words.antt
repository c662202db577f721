-- The instruction of a machine word, and the word of an instruction.
use Rattle.std.specs.Prelude.{ℕ, ◌+◌, ◌-◌, ◌*◌, ◌/◌, ◌%◌, ◌^◌, ◌==◌, ◌&&◌, Bool, Option, Some, None, if◌then◌else◌}
use Rattle.std.specs.Int.{w16}
use Rattle.instructions.specs.declared.op.Op.{Op}
use Rattle.instructions.specs.declared.instr.Instr.{Instr}
use Rattle.instructions.specs.Instruction.{pc_plus_4}
use Rattle.instructions.specs.Operations.{extended}
use Rattle.isa.specs.Statement.{implied_target, implied_source}
use Rattle.encoding.specs.declared.decoding.Decoded.{Decoded}
use Rattle.encoding.specs.declared.layout.Shape.{Shape}
use Rattle.encoding.specs.declared.layout.Shape.TheVariants.{ThreeRegisters, ShiftByAmount, ShiftByRegister, TwoRegisters, MoveFrom, MoveTo, JumpRegister, LinkRegister, Bare, SignedHalf, UnsignedHalf, UpperHalf, Store, BranchOnTwo, BranchOnOne, Region}
use Rattle.encoding.specs.Fields.{rs_of, rt_of, rd_of, shift_of, immediate_of, region_index_of}
use Rattle.encoding.specs.Layouts.{layout, operation_of}

-- ---- targets

-- the target of a branch at pc, by its distance in words from pc + 4, forwards or backwards
abbrev pub branch_target : ℕ → ℕ → ℕ
branch_target pc word = (pc_plus_4 pc + 4 * extended w16 (immediate_of word)) % 2 ^ 32

-- the target of a jump at pc, by the number of a word in the region of 2^28 bytes of pc + 4
abbrev pub region_target : ℕ → ℕ → ℕ
region_target pc word = pc_plus_4 pc / 2 ^ 28 * 2 ^ 28 + 4 * region_index_of word

-- ---- from a word to an instruction

-- an operation with the register that it writes, those that it reads, and its number
abbrev pub instruction : Op → (target first second number : ℕ) → Instr
instruction op target first second number =
    record { op = op; target = target; first = first; second = second; number = number }

-- an instruction, where its word fits
abbrev pub only_if : Bool → Instr → Option Instr
only_if fits i = if fits then Some i else None

-- The instruction of an operation with a shape, at pc. A field without a use has to be 0.
unfoldable pub read : Shape → ℕ → Op → ℕ → ℕ → Option Instr
read ThreeRegisters select op pc w =
    only_if (shift_of w == 0) (instruction op (rd_of w) (rs_of w) (rt_of w) 0)
read ShiftByAmount select op pc w =
    only_if (rs_of w == 0) (instruction op (rd_of w) (rt_of w) 0 (shift_of w))
read ShiftByRegister select op pc w =
    only_if (shift_of w == 0) (instruction op (rd_of w) (rt_of w) (rs_of w) 0)
read TwoRegisters select op pc w =
    only_if (w / 2 ^ 6 % 2 ^ 10 == 0) (instruction op 0 (rs_of w) (rt_of w) 0)
read MoveFrom select op pc w =
    only_if ((w / 2 ^ 16 % 2 ^ 10 == 0) && (shift_of w == 0))
    (instruction op (rd_of w) (implied_source op) 0 0)
read MoveTo select op pc w =
    only_if (w / 2 ^ 6 % 2 ^ 15 == 0) (instruction op (implied_target op) (rs_of w) 0 0)
read JumpRegister select op pc w =
    only_if (w / 2 ^ 6 % 2 ^ 15 == 0) (instruction op 0 (rs_of w) 0 0)
read LinkRegister select op pc w =
    only_if ((rt_of w == 0) && (shift_of w == 0)) (instruction op (rd_of w) (rs_of w) 0 0)
read Bare select op pc w = only_if (w / 2 ^ 6 % 2 ^ 20 == 0) (instruction op 0 0 0 0)
read SignedHalf select op pc w =
    Some (instruction op (rt_of w) (rs_of w) 0 (extended w16 (immediate_of w)))
read UnsignedHalf select op pc w = Some (instruction op (rt_of w) (rs_of w) 0 (immediate_of w))
read UpperHalf select op pc w = only_if (rs_of w == 0) (instruction op (rt_of w) 0 0 (immediate_of w))
read Store select op pc w =
    Some (instruction op 0 (rs_of w) (rt_of w) (extended w16 (immediate_of w)))
read BranchOnTwo select op pc w =
    Some (instruction op 0 (rs_of w) (rt_of w) (branch_target pc w))
read BranchOnOne select op pc w =
    only_if (rt_of w == select) (instruction op 0 (rs_of w) 0 (branch_target pc w))
read Region select op pc w = Some (instruction op (implied_target op) 0 0 (region_target pc w))

-- the instruction of a word at pc, once its operation is known
abbrev pub decode_as : ℕ → ℕ → Option Op → Option Instr
decode_as pc word None = None
decode_as pc word (Some op) = read (layout op).shape (layout op).select op pc word

-- the instruction that a word at pc is, if it is one
unfoldable pub decode : ℕ → ℕ → Option Instr
decode pc word = decode_as pc word (operation_of word)

-- an instruction, by the record of the code
abbrev pub instruction_of : Decoded → Instr
instruction_of d = instruction d.op d.target d.first d.second d.number

-- ---- from an instruction to a word

-- the lower 26 bits, by their fields
abbrev pub registers : (rs rt rd shift function : ℕ) → ℕ
registers rs rt rd shift function =
    rs % 32 * 2 ^ 21 + (rt % 32 * 2 ^ 16 + (rd % 32 * 2 ^ 11 + (shift * 2 ^ 6 + function)))

-- the lower 26 bits with an immediate
abbrev pub immediate : (rs rt number : ℕ) → ℕ
immediate rs rt number = rs % 32 * 2 ^ 21 + (rt % 32 * 2 ^ 16 + number % 2 ^ 16)

-- the distance in words of a target from pc + 4
abbrev pub distance : ℕ → ℕ → ℕ
distance pc target = (target + (2 ^ 32 - pc_plus_4 pc)) % 2 ^ 32 / 4

-- the lower 26 bits of an instruction at pc
unfoldable pub written : Shape → ℕ → ℕ → Instr → ℕ
written ThreeRegisters select pc i = registers i.first i.second i.target 0 select
written ShiftByAmount select pc i = registers 0 i.first i.target (i.number % 32) select
written ShiftByRegister select pc i = registers i.second i.first i.target 0 select
written TwoRegisters select pc i = registers i.first i.second 0 0 select
written MoveFrom select pc i = registers 0 0 i.target 0 select
written MoveTo select pc i = registers i.first 0 0 0 select
written JumpRegister select pc i = registers i.first 0 0 0 select
written LinkRegister select pc i = registers i.first 0 i.target 0 select
written Bare select pc i = registers 0 0 0 0 select
written SignedHalf select pc i = immediate i.first i.target i.number
written UnsignedHalf select pc i = immediate i.first i.target i.number
written UpperHalf select pc i = immediate 0 i.target i.number
written Store select pc i = immediate i.first i.second i.number
written BranchOnTwo select pc i = immediate i.first i.second (distance pc i.number)
written BranchOnOne select pc i = immediate i.first (select % 32) (distance pc i.number)
written Region select pc i = i.number / 4 % 2 ^ 26

-- the only word that can say an instruction at pc
abbrev pub packed : ℕ → Instr → ℕ
packed pc i = (layout i.op).opcode * 2 ^ 26 + written (layout i.op).shape (layout i.op).select pc i
