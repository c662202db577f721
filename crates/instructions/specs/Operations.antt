-- The outcome of each operation: MIPS I's integer operations, without delay slots.
use Rattle.std.specs.Prelude.{ℕ, ℤ, pos, negsuc, ◌+◌, ◌-◌, ◌*◌, ◌/◌, ◌%◌, ◌^◌, ◌<◌, ◌≤◌, ◌+ℤ◌, ◌-ℤ◌, Bool, true, false, not, ◌&&◌, ⊤, ◌==◌, nat_lt, nat_le, int_lt, int_le, if◌then◌else◌, bit_and, bit_or, bit_xor, Result, Ok, Err}
use Rattle.std.specs.Int.{Width, w8, w16, w32, cast_signed, cast_unsigned, int_div_euclid}
use Rattle.instructions.specs.declared.op.Op.{Op}
use Rattle.instructions.specs.declared.op.Op.TheVariants.{Addu, Subu, Add, Sub, And, Or, Xor, Nor, Slt, Sltu, Sll, Srl, Sra, Sllv, Srlv, Srav, Mult, Multu, Div, Divu, Mflo, Mfhi, Mtlo, Mthi, Addiu, Addi, Slti, Sltiu, Andi, Ori, Xori, Lui, Lb, Lh, Beq, Bne, Blez, Bgtz, Bltz, Bgez, Jr, Jalr}
use Rattle.instructions.specs.declared.op.Half.{Half}
use Rattle.instructions.specs.declared.op.Half.TheVariants.{Low, High}
use Rattle.instructions.specs.declared.op.Kind.{Kind}
use Rattle.instructions.specs.declared.op.Kind.TheVariants.{Computes, Jumps, Links, Loads, Stores}
use Rattle.instructions.specs.declared.instr.Instr.{Instr}
use Rattle.instructions.specs.declared.stop.Stop.{Stop}
use Rattle.instructions.specs.declared.stop.Stop.TheVariants.{Break as BreakStop, Overflow, Unaligned, OutOfRange, BadPc}
use Rattle.instructions.specs.declared.stop.Outcome.{Outcome}
use Rattle.instructions.specs.declared.stop.Outcome.TheVariants.{Value, Next, Address, Stop as Stops, Pair}
use Rattle.instructions.specs.Instruction.{kind, width, pc_plus_4, is_pair}
use Rattle.instructions.specs.Products.{word_of_half, product, signed_product, divided, signed_divided}

-- the number of a stop
abbrev pub code_of : Stop → ℕ
code_of BreakStop = 0
code_of Overflow = 1
code_of Unaligned = 2
code_of OutOfRange = 3
code_of BadPc = 4

-- whether a number has 32 bits
abbrev pub IsWord : ℕ → Type 0
IsWord n = n < 2 ^ 32

-- a word, read as two's complement
abbrev pub signed : ℕ → ℤ
signed a = cast_signed w32 a

-- whether a whole number is from -2^31 to 2^31 - 1
abbrev pub fits_word : ℤ → Bool
fits_word z = int_le (negsuc (2 ^ 31 - 1)) z && int_lt z (pos (2 ^ 31))

-- a whole number as a word, if it fits
abbrev pub fitted : ℤ → Result ℕ Stop
fitted z = if fits_word z then Ok (cast_unsigned w32 z) else Err Overflow

-- the sum of two words, which wraps
abbrev pub sum : ℕ → ℕ → ℕ
sum a b = (a + b) % 2 ^ 32

-- the difference of two words, which wraps
abbrev pub difference : ℕ → ℕ → ℕ
difference a b = (a + (2 ^ 32 - b)) % 2 ^ 32

-- the sum of two signed words, or an overflow
abbrev pub checked_sum : ℕ → ℕ → Result ℕ Stop
checked_sum a b = fitted (signed a +ℤ signed b)

-- the difference of two signed words, or an overflow
abbrev pub checked_difference : ℕ → ℕ → Result ℕ Stop
checked_difference a b = fitted (signed a -ℤ signed b)

-- 1 where a comparison holds, and else 0
abbrev pub flag : Bool → Result ℕ Stop
flag true = Ok 1
flag false = Ok 0

-- a word shifted to the left by n bits
abbrev pub shifted_left : ℕ → ℕ → ℕ
shifted_left a n = (a * 2 ^ n) % 2 ^ 32

-- a word shifted to the right by n bits with its sign: the signed number divided by 2^n, rounded down
abbrev pub shifted_signed : ℕ → ℕ → ℕ
shifted_signed a n = cast_unsigned w32 (int_div_euclid (signed a) (pos (2 ^ n)))

-- the result of a half of a computing operation: its value, or a stop; other operations have no row of their own
unfoldable pub computed_by : Op → Half → ℕ → ℕ → ℕ → Result ℕ Stop
computed_by Addu half a b i = Ok (sum a b)
computed_by Subu half a b i = Ok (difference a b)
computed_by Add half a b i = checked_sum a b
computed_by Sub half a b i = checked_difference a b
computed_by And half a b i = Ok (bit_and a b)
computed_by Or half a b i = Ok (bit_or a b)
computed_by Xor half a b i = Ok (bit_xor a b)
computed_by Nor half a b i = Ok (2 ^ 32 - 1 - bit_or a b)
computed_by Slt half a b i = flag (int_lt (signed a) (signed b))
computed_by Sltu half a b i = flag (nat_lt a b)
computed_by Sll half a b i = Ok (shifted_left a (i % 32))
computed_by Srl half a b i = Ok (a / 2 ^ (i % 32))
computed_by Sra half a b i = Ok (shifted_signed a (i % 32))
computed_by Sllv half a b i = Ok (shifted_left a (b % 32))
computed_by Srlv half a b i = Ok (a / 2 ^ (b % 32))
computed_by Srav half a b i = Ok (shifted_signed a (b % 32))
computed_by Mult half a b i = Ok (word_of_half half (signed_product (signed a) (signed b)))
computed_by Multu half a b i = Ok (word_of_half half (product a b))
computed_by Div half a b i = Ok (signed_divided half (signed a) (signed b))
computed_by Divu half a b i = Ok (divided half a b)
computed_by Mflo half a b i = Ok a
computed_by Mfhi half a b i = Ok a
computed_by Mtlo half a b i = Ok a
computed_by Mthi half a b i = Ok a
computed_by Addiu half a b i = Ok (sum a i)
computed_by Addi half a b i = checked_sum a i
computed_by Slti half a b i = flag (int_lt (signed a) (signed i))
computed_by Sltiu half a b i = flag (nat_lt a i)
computed_by Andi half a b i = Ok (bit_and a i)
computed_by Ori half a b i = Ok (bit_or a i)
computed_by Xori half a b i = Ok (bit_xor a i)
computed_by Lui half a b i = Ok (shifted_left i 16)
computed_by _ half a b i = Err BreakStop

-- the pc after a branch at pc, by whether it is taken
abbrev pub taken_if : Bool → ℕ → ℕ → ℕ
taken_if taken pc to = if taken then to else pc_plus_4 pc

-- the pc after a branch or jump at pc
unfoldable pub jump_target : Op → ℕ → ℕ → ℕ → ℕ → ℕ
jump_target Beq pc a b to = taken_if (a == b) pc to
jump_target Bne pc a b to = taken_if (not (a == b)) pc to
jump_target Blez pc a b to = taken_if (int_le (signed a) (pos 0)) pc to
jump_target Bgtz pc a b to = taken_if (int_lt (pos 0) (signed a)) pc to
jump_target Bltz pc a b to = taken_if (int_lt (signed a) (pos 0)) pc to
jump_target Bgez pc a b to = taken_if (int_le (pos 0) (signed a)) pc to
jump_target Jr pc a b to = a
jump_target Jalr pc a b to = a
jump_target _ pc a b to = to

-- the result of an access of w bytes at an address, to a memory of this size
unfoldable pub checked_address : ℕ → ℕ → ℕ → Result ℕ Stop
checked_address w at size =
    if at % w == 0 then (if nat_le (at + w) size then Ok at else Err OutOfRange) else Err Unaligned

-- a value, or a stop, as an outcome
abbrev pub as_value : Result ℕ Stop → Outcome
as_value (Ok v) = Value v
as_value (Err c) = Stops c

-- an address, or a stop, as an outcome
abbrev pub as_address : Result ℕ Stop → Outcome
as_address (Ok at) = Address at
as_address (Err c) = Stops c

-- the outcome of a half, by the kind of its operation
abbrev pub outcome_by : Kind → Instr → Half → ℕ → ℕ → ℕ → ℕ → Outcome
outcome_by Computes i half pc a b size = as_value (computed_by i.op half a b i.number)
outcome_by Jumps i half pc a b size = Next (jump_target i.op pc a b i.number)
outcome_by Links i half pc a b size = Next (jump_target i.op pc a b i.number)
outcome_by Loads i half pc a b size = as_address (checked_address (width i.op) (sum a i.number) size)
outcome_by Stores i half pc a b size = as_address (checked_address (width i.op) (sum a i.number) size)

-- the outcome of a half of an instruction at pc, where its sources are a and b and data memory has this size
abbrev pub outcome_of : Instr → Half → ℕ → ℕ → ℕ → ℕ → Outcome
outcome_of i half pc a b size = outcome_by (kind i.op) i half pc a b size

-- the outcomes of two halves, as one
abbrev pub paired : Outcome → Outcome → Outcome
paired (Value l) (Value h) = Pair l h
paired o p = o

-- the outcome of an instruction that has two halves, or one
abbrev pub outcome_if : Bool → Instr → ℕ → ℕ → ℕ → ℕ → Outcome
outcome_if true i pc a b size = paired (outcome_of i Low pc a b size) (outcome_of i High pc a b size)
outcome_if false i pc a b size = outcome_of i Low pc a b size

-- the outcome of an instruction at pc, where its sources are a and b and data memory has this size
abbrev pub outcome : Instr → ℕ → ℕ → ℕ → ℕ → Outcome
outcome i pc a b size = outcome_if (is_pair i.op) i pc a b size

-- n, whose width is given, read as two's complement, as a word
abbrev pub extended : Width → ℕ → ℕ
extended w n = cast_unsigned w32 (cast_signed w n)

-- a load's bytes as its value
unfoldable pub loaded : Op → ℕ → ℕ
loaded Lb raw = extended w8 (raw % 2 ^ 8)
loaded Lh raw = extended w16 (raw % 2 ^ 16)
loaded _ raw = raw

-- whether an access of w bytes at an address is inside the memory
abbrev pub AddressIsInside : Outcome → ℕ → ℕ → Type 0
AddressIsInside (Address at) w size = at + w ≤ size
AddressIsInside _ w size = ⊤
