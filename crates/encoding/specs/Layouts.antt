-- The layouts of the operations: the opcodes, functions and fields of MIPS I.
use Rattle.std.specs.Prelude.{ℕ, ◌==◌, ◌&&◌, Bool, Option}
use Rattle.std.specs.List.{find}
use Rattle.instructions.specs.declared.op.Op.{Op}
use Rattle.instructions.specs.declared.op.Op.TheVariants.{Addu, Subu, Add, Sub, And, Or, Xor, Nor, Slt, Sltu, Sll, Srl, Sra, Sllv, Srlv, Srav}
use Rattle.instructions.specs.declared.op.Op.TheVariants.{Mult, Multu, Div, Divu, Mflo, Mfhi, Mtlo, Mthi}
use Rattle.instructions.specs.declared.op.Op.TheVariants.{Addiu, Addi, Slti, Sltiu, Andi, Ori, Xori, Lui, Lb, Lbu, Lh, Lhu, Lw, Sb, Sh, Sw}
use Rattle.instructions.specs.declared.op.Op.TheVariants.{Beq, Bne, Blez, Bgtz, Bltz, Bgez, J, Jal, Jr, Jalr, Break}
use Rattle.instructions.specs.Instruction.{operations}
use Rattle.encoding.specs.declared.layout.Layout.{Layout}
use Rattle.encoding.specs.declared.layout.Shape.{Shape}
use Rattle.encoding.specs.declared.layout.Shape.TheVariants.{ThreeRegisters, ShiftByAmount, ShiftByRegister, TwoRegisters, MoveFrom, MoveTo, JumpRegister, LinkRegister, Bare, SignedHalf, UnsignedHalf, UpperHalf, Store, BranchOnTwo, BranchOnOne, Region}
use Rattle.encoding.specs.Fields.{opcode_of, select_of}

-- a layout: an opcode, a selecting field and a shape
abbrev pub layout_of : ℕ → ℕ → Shape → Layout
layout_of opcode select shape = record { opcode = opcode; select = select; shape = shape }

-- the layout of an operation
abbrev pub layout : Op → Layout
layout Addu = layout_of 0 33 ThreeRegisters
layout Subu = layout_of 0 35 ThreeRegisters
layout Add = layout_of 0 32 ThreeRegisters
layout Sub = layout_of 0 34 ThreeRegisters
layout And = layout_of 0 36 ThreeRegisters
layout Or = layout_of 0 37 ThreeRegisters
layout Xor = layout_of 0 38 ThreeRegisters
layout Nor = layout_of 0 39 ThreeRegisters
layout Slt = layout_of 0 42 ThreeRegisters
layout Sltu = layout_of 0 43 ThreeRegisters
layout Sll = layout_of 0 0 ShiftByAmount
layout Srl = layout_of 0 2 ShiftByAmount
layout Sra = layout_of 0 3 ShiftByAmount
layout Sllv = layout_of 0 4 ShiftByRegister
layout Srlv = layout_of 0 6 ShiftByRegister
layout Srav = layout_of 0 7 ShiftByRegister
layout Mult = layout_of 0 24 TwoRegisters
layout Multu = layout_of 0 25 TwoRegisters
layout Div = layout_of 0 26 TwoRegisters
layout Divu = layout_of 0 27 TwoRegisters
layout Mflo = layout_of 0 18 MoveFrom
layout Mfhi = layout_of 0 16 MoveFrom
layout Mtlo = layout_of 0 19 MoveTo
layout Mthi = layout_of 0 17 MoveTo
layout Addiu = layout_of 9 0 SignedHalf
layout Addi = layout_of 8 0 SignedHalf
layout Slti = layout_of 10 0 SignedHalf
layout Sltiu = layout_of 11 0 SignedHalf
layout Andi = layout_of 12 0 UnsignedHalf
layout Ori = layout_of 13 0 UnsignedHalf
layout Xori = layout_of 14 0 UnsignedHalf
layout Lui = layout_of 15 0 UpperHalf
layout Lb = layout_of 32 0 SignedHalf
layout Lbu = layout_of 36 0 SignedHalf
layout Lh = layout_of 33 0 SignedHalf
layout Lhu = layout_of 37 0 SignedHalf
layout Lw = layout_of 35 0 SignedHalf
layout Sb = layout_of 40 0 Store
layout Sh = layout_of 41 0 Store
layout Sw = layout_of 43 0 Store
layout Beq = layout_of 4 0 BranchOnTwo
layout Bne = layout_of 5 0 BranchOnTwo
layout Blez = layout_of 6 0 BranchOnOne
layout Bgtz = layout_of 7 0 BranchOnOne
layout Bltz = layout_of 1 0 BranchOnOne
layout Bgez = layout_of 1 1 BranchOnOne
layout J = layout_of 2 0 Region
layout Jal = layout_of 3 0 Region
layout Jr = layout_of 0 8 JumpRegister
layout Jalr = layout_of 0 9 LinkRegister
layout Break = layout_of 0 13 Bare

-- whether an operation has this opcode and this selecting field
abbrev pub has_layout : ℕ → ℕ → Op → Bool
has_layout opcode select op = ((layout op).opcode == opcode) && ((layout op).select == select)

-- the operation with the opcode and the selecting field of a word, if there is one
unfoldable pub operation_of : ℕ → Option Op
operation_of word = find (has_layout (opcode_of word) (select_of word)) operations
