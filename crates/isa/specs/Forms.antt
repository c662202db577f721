-- The forms of the operations: a word, and the kinds of its operands from the left.
use Rattle.std.specs.Prelude.{ℕ, ◌==◌, ◌&&◌, Bool, List, [], ◌∷◌, ◌++◌, length, map, Option, Result, Err, ok_or, if◌then◌else◌, codes}
use Rattle.std.specs.List.{list_any, find}
use Rattle.std.specs.Str.{str_eq_ignore_ascii_case}
use Rattle.instructions.specs.declared.op.Op.{Op}
use Rattle.instructions.specs.declared.op.Op.TheVariants.{Addu, Subu, Add, Sub, And, Or, Xor, Nor, Slt, Sltu, Sll, Srl, Sra, Sllv, Srlv, Srav}
use Rattle.instructions.specs.declared.op.Op.TheVariants.{Mult, Multu, Div, Divu, Mflo, Mfhi, Mtlo, Mthi}
use Rattle.instructions.specs.declared.op.Op.TheVariants.{Addiu, Addi, Slti, Sltiu, Andi, Ori, Xori, Lui, Lb, Lbu, Lh, Lhu, Lw, Sb, Sh, Sw}
use Rattle.instructions.specs.declared.op.Op.TheVariants.{Beq, Bne, Blez, Bgtz, Bltz, Bgez, J, Jal, Jr, Jalr, Break}
use Rattle.instructions.specs.Instruction.{operations}
use Rattle.isa.specs.declared.listing.fault.FaultKind.{FaultKind}
use Rattle.isa.specs.declared.listing.fault.FaultKind.TheVariants.{BadOperands, UnknownOp}
use Rattle.isa.specs.declared.listing.slot.Slot.{Slot}
use Rattle.isa.specs.declared.listing.slot.Slot.TheVariants as slot
use Rattle.isa.specs.declared.listing.slot.Operands.{Operands}
use Rattle.isa.specs.declared.listing.slot.Operands.TheVariants.{RdRsRt, RdRtRs, RdRtAmount, RdRs, RsRt, Rd, Rs, RtRsSigned, RtRsUnsigned, RtUnsigned, Load, Store, RsRtLabel, RsLabel, Label, Nothing}
use Rattle.isa.specs.declared.listing.form.Form.{Form as Row}

-- ---- operands

-- the kinds of operands, from the left
abbrev pub slots : Operands → List Slot
slots RdRsRt = slot.Into ∷ slot.First ∷ slot.Second ∷ []
slots RdRtRs = slot.Into ∷ slot.First ∷ slot.Second ∷ []
slots RdRtAmount = slot.Into ∷ slot.First ∷ slot.U5 ∷ []
slots RdRs = slot.Into ∷ slot.First ∷ []
slots RsRt = slot.First ∷ slot.Second ∷ []
slots Rd = slot.Into ∷ []
slots Rs = slot.First ∷ []
slots RtRsSigned = slot.Into ∷ slot.First ∷ slot.S16 ∷ []
slots RtRsUnsigned = slot.Into ∷ slot.First ∷ slot.U16 ∷ []
slots RtUnsigned = slot.Into ∷ slot.U16 ∷ []
slots Load = slot.Into ∷ slot.Offset ∷ []
slots Store = slot.Second ∷ slot.Offset ∷ []
slots RsRtLabel = slot.First ∷ slot.Second ∷ slot.Label ∷ []
slots RsLabel = slot.First ∷ slot.Label ∷ []
slots Label = slot.Label ∷ []
slots Nothing = []

-- the operands as a form shows them after its word
abbrev pub operands_text : Operands → List ℕ
operands_text RdRsRt = codes "rd,rs,rt"
operands_text RdRtRs = codes "rd,rt,rs"
operands_text RdRtAmount = codes "rd,rt,n with n from 0 to 31"
operands_text RdRs = codes "rd,rs"
operands_text RsRt = codes "rs,rt"
operands_text Rd = codes "rd"
operands_text Rs = codes "rs"
operands_text RtRsSigned = codes "rt,rs,n with n from -32768 to 32767"
operands_text RtRsUnsigned = codes "rt,rs,n with n from 0 to 65535"
operands_text RtUnsigned = codes "rt,n with n from 0 to 65535"
operands_text Load = codes "rt,n(rs) with n from -32768 to 32767"
operands_text Store = codes "rt,n(rs) with n from -32768 to 32767"
operands_text RsRtLabel = codes "rs,rt,label"
operands_text RsLabel = codes "rs,label"
operands_text Label = codes "label"
operands_text Nothing = codes "without operands"

-- ---- operations

-- a word with its operation and its operands
pub record Form : Type 0 where
  pub word : List ℕ
  pub op : Op
  pub operands : Operands

-- the word and the operands with which a listing writes an operation
abbrev pub word_and_operands : Op → List ℕ × Operands
word_and_operands Addu = (codes "addu", RdRsRt)
word_and_operands Subu = (codes "subu", RdRsRt)
word_and_operands Add = (codes "add", RdRsRt)
word_and_operands Sub = (codes "sub", RdRsRt)
word_and_operands And = (codes "and", RdRsRt)
word_and_operands Or = (codes "or", RdRsRt)
word_and_operands Xor = (codes "xor", RdRsRt)
word_and_operands Nor = (codes "nor", RdRsRt)
word_and_operands Slt = (codes "slt", RdRsRt)
word_and_operands Sltu = (codes "sltu", RdRsRt)
word_and_operands Sll = (codes "sll", RdRtAmount)
word_and_operands Srl = (codes "srl", RdRtAmount)
word_and_operands Sra = (codes "sra", RdRtAmount)
word_and_operands Sllv = (codes "sllv", RdRtRs)
word_and_operands Srlv = (codes "srlv", RdRtRs)
word_and_operands Srav = (codes "srav", RdRtRs)
word_and_operands Mult = (codes "mult", RsRt)
word_and_operands Multu = (codes "multu", RsRt)
word_and_operands Div = (codes "div", RsRt)
word_and_operands Divu = (codes "divu", RsRt)
word_and_operands Mflo = (codes "mflo", Rd)
word_and_operands Mfhi = (codes "mfhi", Rd)
word_and_operands Mtlo = (codes "mtlo", Rs)
word_and_operands Mthi = (codes "mthi", Rs)
word_and_operands Addiu = (codes "addiu", RtRsSigned)
word_and_operands Addi = (codes "addi", RtRsSigned)
word_and_operands Slti = (codes "slti", RtRsSigned)
word_and_operands Sltiu = (codes "sltiu", RtRsSigned)
word_and_operands Andi = (codes "andi", RtRsUnsigned)
word_and_operands Ori = (codes "ori", RtRsUnsigned)
word_and_operands Xori = (codes "xori", RtRsUnsigned)
word_and_operands Lui = (codes "lui", RtUnsigned)
word_and_operands Lb = (codes "lb", Load)
word_and_operands Lbu = (codes "lbu", Load)
word_and_operands Lh = (codes "lh", Load)
word_and_operands Lhu = (codes "lhu", Load)
word_and_operands Lw = (codes "lw", Load)
word_and_operands Sb = (codes "sb", Store)
word_and_operands Sh = (codes "sh", Store)
word_and_operands Sw = (codes "sw", Store)
word_and_operands Beq = (codes "beq", RsRtLabel)
word_and_operands Bne = (codes "bne", RsRtLabel)
word_and_operands Blez = (codes "blez", RsLabel)
word_and_operands Bgtz = (codes "bgtz", RsLabel)
word_and_operands Bltz = (codes "bltz", RsLabel)
word_and_operands Bgez = (codes "bgez", RsLabel)
word_and_operands J = (codes "j", Label)
word_and_operands Jal = (codes "jal", Label)
word_and_operands Jr = (codes "jr", Rs)
word_and_operands Jalr = (codes "jalr", RdRs)
word_and_operands Break = (codes "break", Nothing)

-- an operation with the word and the operands that are given
abbrev pub form_by : Op → List ℕ × Operands → Form
form_by op given = record { word = given.0; op = op; operands = given.1 }

-- the form in which a listing writes an operation
abbrev pub form_as_written : Op → Form
form_as_written op = form_by op (word_and_operands op)

-- the word of an operation
abbrev pub operation_word : Op → List ℕ
operation_word op = (form_as_written op).word

-- the operands of an operation, from the left
abbrev pub slots_of : Op → List Slot
slots_of op = slots (form_as_written op).operands

-- The forms that are only read: `jalr` without the register that it writes, which is 31 then, and `nop`,
-- a shift of register 0.
abbrev pub only_read : List Form
only_read = form_by Jalr (codes "jalr", Rs) ∷ form_by Sll (codes "nop", Nothing) ∷ []

-- all forms
abbrev pub forms : List Form
forms = map form_as_written operations ++ only_read

-- the text of a form
abbrev pub form_text : Form → List ℕ
form_text form = form.word ++ 32 ∷ operands_text form.operands

-- whether a form has this word, in letters of either case
abbrev pub has_word : List ℕ → Form → Bool
has_word word form = str_eq_ignore_ascii_case form.word word

-- whether a form has this word and this number of operands
abbrev pub has_word_and_count : List ℕ → ℕ → Form → Bool
has_word_and_count word n form = has_word word form && (length (slots form.operands) == n)

-- whether some form has the word
unfoldable pub is_operation : List ℕ → Bool
is_operation word = list_any (has_word word) forms

-- the form of a word with n operands
unfoldable pub form_with : List ℕ → ℕ → Option Form
form_with word n = find (has_word_and_count word n) forms

-- the form of a word with n operands, or the fault
abbrev pub form_of : List ℕ → ℕ → Result Form FaultKind
form_of word n = if is_operation word then ok_or (form_with word n) BadOperands else Err UnknownOp

-- a form of the code's table
abbrev pub form_view : Row → Form
form_view row = record { word = row.word.now; op = row.op; operands = row.operands }
