-- The registers that an instruction reads and writes, its kind, and the pc after it.
use Rattle.std.specs.Prelude.{ℕ, ◌+◌, ◌%◌, ◌^◌, Bool, true, false, ◌==◌, if◌then◌else◌, ◌&&◌, nat_lt, List, [], ◌∷◌, Option, Some, None}
use Rattle.instructions.specs.declared.op.Op.{Op}
use Rattle.instructions.specs.declared.op.Op.TheVariants.{Addu, Subu, Add, Sub, And, Or, Xor, Nor, Slt, Sltu, Sll, Srl, Sra, Sllv, Srlv, Srav}
use Rattle.instructions.specs.declared.op.Op.TheVariants.{Mult, Multu, Div, Divu, Mflo, Mfhi, Mtlo, Mthi}
use Rattle.instructions.specs.declared.op.Op.TheVariants.{Addiu, Addi, Slti, Sltiu, Andi, Ori, Xori, Lui, Lb, Lbu, Lh, Lhu, Lw, Sb, Sh, Sw}
use Rattle.instructions.specs.declared.op.Op.TheVariants.{Beq, Bne, Blez, Bgtz, Bltz, Bgez, J, Jal, Jr, Jalr, Break}
use Rattle.instructions.specs.declared.op.Half.{Half}
use Rattle.instructions.specs.declared.op.Half.TheVariants.{Low, High}
use Rattle.instructions.specs.declared.op.Kind.{Kind}
use Rattle.instructions.specs.declared.op.Kind.TheVariants.{Computes, Jumps, Links, Loads, Stores}
use Rattle.instructions.specs.declared.instr.Instr.{Instr}
use Rattle.instructions.specs.Registers.{general_count, lo, hi}

-- an operation with the register that it writes, those that it reads, and its number
abbrev pub instr_with : Op → (target first second number : ℕ) → Instr
instr_with op target first second number =
    record { op = op; target = target; first = first; second = second; number = number }

-- the address after the instruction at pc
abbrev pub pc_plus_4 : ℕ → ℕ
pc_plus_4 pc = (pc + 4) % 2 ^ 32

-- the operations, in the order of their table
abbrev pub operations : List Op
operations =
    Addu ∷ Subu ∷ Add ∷ Sub ∷ And ∷ Or ∷ Xor ∷ Nor ∷ Slt ∷ Sltu ∷ Sll ∷ Srl ∷ Sra ∷ Sllv ∷ Srlv ∷ Srav
    ∷ Mult ∷ Multu ∷ Div ∷ Divu ∷ Mflo ∷ Mfhi ∷ Mtlo ∷ Mthi
    ∷ Addiu ∷ Addi ∷ Slti ∷ Sltiu ∷ Andi ∷ Ori ∷ Xori ∷ Lui ∷ Lb ∷ Lbu ∷ Lh ∷ Lhu ∷ Lw ∷ Sb ∷ Sh ∷ Sw
    ∷ Beq ∷ Bne ∷ Blez ∷ Bgtz ∷ Bltz ∷ Bgez ∷ J ∷ Jal ∷ Jr ∷ Jalr ∷ Break ∷ []

-- the kind of an operation
abbrev pub kind : Op → Kind
kind Lb = Loads
kind Lbu = Loads
kind Lh = Loads
kind Lhu = Loads
kind Lw = Loads
kind Sb = Stores
kind Sh = Stores
kind Sw = Stores
kind Beq = Jumps
kind Bne = Jumps
kind Blez = Jumps
kind Bgtz = Jumps
kind Bltz = Jumps
kind Bgez = Jumps
kind J = Jumps
kind Jr = Jumps
kind Jal = Links
kind Jalr = Links
kind _ = Computes

-- whether operations of a kind are loads or stores
abbrev pub is_access : Kind → Bool
is_access Loads = true
is_access Stores = true
is_access _ = false

-- the number of bytes that a load or store accesses
abbrev pub width : Op → ℕ
width Lb = 1
width Lbu = 1
width Sb = 1
width Lh = 2
width Lhu = 2
width Sh = 2
width _ = 4

-- whether an operation is a conditional branch
abbrev pub is_branch : Op → Bool
is_branch Beq = true
is_branch Bne = true
is_branch Blez = true
is_branch Bgtz = true
is_branch Bltz = true
is_branch Bgez = true
is_branch _ = false

-- whether an operation makes two values, one for LO and one for HI
abbrev pub is_pair : Op → Bool
is_pair Mult = true
is_pair Multu = true
is_pair Div = true
is_pair Divu = true
is_pair _ = false

-- whether a half is the one that writes LO
abbrev pub is_low : Half → Bool
is_low Low = true
is_low High = false

-- whether a half is the first of two
abbrev pub is_first_half : Op → Half → Bool
is_first_half op half = is_pair op && is_low half

-- whether an operation has a source 1
abbrev pub reads_first : Op → Bool
reads_first Lui = false
reads_first J = false
reads_first Jal = false
reads_first Break = false
reads_first _ = true

-- whether an operation has a source 2
abbrev pub reads_second : Op → Bool
reads_second Addu = true
reads_second Subu = true
reads_second Add = true
reads_second Sub = true
reads_second And = true
reads_second Or = true
reads_second Xor = true
reads_second Nor = true
reads_second Slt = true
reads_second Sltu = true
reads_second Sllv = true
reads_second Srlv = true
reads_second Srav = true
reads_second Mult = true
reads_second Multu = true
reads_second Div = true
reads_second Divu = true
reads_second Sb = true
reads_second Sh = true
reads_second Sw = true
reads_second Beq = true
reads_second Bne = true
reads_second _ = false

-- whether operations of a kind write a register
abbrev pub kind_writes : Kind → Bool
kind_writes Jumps = false
kind_writes Stores = false
kind_writes _ = true

-- whether an operation writes a register
abbrev pub writes : Op → Bool
writes Break = false
writes op = kind_writes (kind op)

-- the register that is read where an instruction names register r: a multiplication or division reads general
-- registers alone
abbrev pub read_by : Bool → ℕ → ℕ
read_by true r = if nat_lt r general_count then r else 0
read_by false r = r

-- the register of source 1
abbrev pub first_of : Instr → ℕ
first_of i = read_by (is_pair i.op) i.first

-- the register of source 2
abbrev pub second_of : Instr → ℕ
second_of i = read_by (is_pair i.op) i.second

-- the register of source k, if the instruction has that source
abbrev pub source : ℕ → Instr → Option ℕ
source k i =
    if k == 1 then (if reads_first i.op then Some (first_of i) else None)
    else if k == 2 then (if reads_second i.op then Some (second_of i) else None)
    else None

-- the register that a half of a multiplication or division writes
abbrev pub pair_target : Half → ℕ
pair_target Low = lo
pair_target High = hi

-- the register of a half, where it writes one: that of the half of a pair, else the one that is named
abbrev pub target_by : Bool → Half → ℕ → ℕ
target_by true half r = pair_target half
target_by false half r = r

-- the register of a half of an instruction, where it writes one
abbrev pub target_of : Instr → Half → ℕ
target_of i half = target_by (is_pair i.op) half i.target

-- the register that a half of an instruction writes, if any
abbrev pub written : Instr → Half → Option ℕ
written i half = if writes i.op then Some (target_of i half) else None

-- the register that an instruction of a kind changes: 0 for none, since a write to register 0 is
-- dropped
abbrev pub destination_by : Kind → ℕ → ℕ
destination_by Jumps r = 0
destination_by Stores r = 0
destination_by _ r = r

-- the register that a half changes; 0 for none
abbrev pub destination : Instr → Half → ℕ
destination i half = destination_by (kind i.op) (target_of i half)

-- the pc after the instruction at pc, or none where a predictor is asked for it
abbrev pub fixed_next_by : Op → ℕ → ℕ → Option ℕ
fixed_next_by J pc to = Some to
fixed_next_by Jal pc to = Some to
fixed_next_by Jr pc to = None
fixed_next_by Jalr pc to = None
fixed_next_by op pc to = if is_branch op then None else Some (pc_plus_4 pc)

-- the pc after a half, or none where a predictor is asked for it: the second of two halves follows the first at the
-- same pc
abbrev pub fixed_next_if : Bool → Instr → ℕ → Option ℕ
fixed_next_if true i pc = Some pc
fixed_next_if false i pc = fixed_next_by i.op pc i.number

-- the pc after a half of an instruction, or none where a predictor is asked for it
abbrev pub fixed_next : Instr → Half → ℕ → Option ℕ
fixed_next i half pc = fixed_next_if (is_first_half i.op half) i pc
