-- An instruction as a listing has it, and the law that its text is read back.
use Rattle.std.specs.Prelude.{◌≡◌, ℕ, zero, suc, ◌-◌, ◌≤◌, ◌<◌, ◌^◌, ◌⊎◌, ⊤, ◌==◌, ◌&&◌, Bool, false, List, [], ◌∷◌, ◌++◌, map, replicate, Option, Some, None, slice_get, if◌then◌else◌, codes}
use Rattle.std.specs.Fmt.{decimal, signed_decimal}
use Rattle.std.specs.List.{join_with_byte}
use Rattle.std.specs.Int.{w32, cast_signed}
use Rattle.instructions.specs.declared.op.Op.{Op}
use Rattle.instructions.specs.declared.op.Op.TheVariants.{Sll}
use Rattle.instructions.specs.declared.instr.Instr.{Instr}
use Rattle.isa.specs.declared.listing.slot.Slot.{Slot}
use Rattle.isa.specs.declared.listing.slot.Slot.TheVariants.{Into, First, Second, S16, U16, U5, Label, Offset}
use Rattle.isa.specs.declared.listing.instr_text.RegisterStyle.{RegisterStyle}
use Rattle.isa.specs.declared.listing.instr_text.RegisterStyle.TheVariants.{Numbers, Names}
use Rattle.instructions.specs.Registers.{general_count}
use Rattle.isa.specs.Report.{hex8}
use Rattle.isa.specs.Statement.{Parsed, bare, gives_code, with_target, with_first_source, with_second_source, with_number, with_label}
use Rattle.isa.specs.Listing.{read, labels}
use Rattle.isa.specs.Forms.{operation_word, slots_of}

-- ---- registers and numbers

-- the names of the general registers, in the order of their numbers
abbrev pub names : List (List ℕ)
names =
    codes "zero" ∷ codes "at" ∷ codes "v0" ∷ codes "v1" ∷ codes "a0" ∷ codes "a1" ∷ codes "a2"
    ∷ codes "a3" ∷ codes "t0" ∷ codes "t1" ∷ codes "t2" ∷ codes "t3" ∷ codes "t4" ∷ codes "t5"
    ∷ codes "t6" ∷ codes "t7" ∷ codes "s0" ∷ codes "s1" ∷ codes "s2" ∷ codes "s3" ∷ codes "s4"
    ∷ codes "s5" ∷ codes "s6" ∷ codes "s7" ∷ codes "t8" ∷ codes "t9" ∷ codes "k0" ∷ codes "k1"
    ∷ codes "gp" ∷ codes "sp" ∷ codes "fp" ∷ codes "ra" ∷ []

-- the name of a register, or its number where there is none
abbrev pub name_or : ℕ → Option (List ℕ) → List ℕ
name_or r None = decimal r
name_or r (Some name) = name

-- a register after its `$`
abbrev pub register_word : RegisterStyle → ℕ → List ℕ
register_word Numbers r = decimal r
register_word Names r = name_or r (slice_get names r)

-- a register as an operand
abbrev pub register_text : RegisterStyle → ℕ → List ℕ
register_text naming r = codes "$" ++ register_word naming r

-- a number as two's complement, in decimal
abbrev pub signed_text : ℕ → List ℕ
signed_text n = signed_decimal (cast_signed w32 n)

-- the label of an address: `L` and its eight hexadecimal digits
abbrev pub label_text : ℕ → List ℕ
label_text address = codes "L" ++ hex8 address

-- ---- instructions

-- an operand of an instruction
abbrev pub operand_text : RegisterStyle → Slot → Instr → List ℕ
operand_text naming Into i = register_text naming i.target
operand_text naming First i = register_text naming i.first
operand_text naming Second i = register_text naming i.second
operand_text naming S16 i = signed_text i.number
operand_text naming U16 i = decimal i.number
operand_text naming U5 i = decimal i.number
operand_text naming Label i = label_text i.number
operand_text naming Offset i =
    signed_text i.number ++ (codes "(" ++ (register_text naming i.first ++ codes ")"))

-- a word, and after a blank its operands with commas between them
abbrev pub with_operands_text : List ℕ → List (List ℕ) → List ℕ
with_operands_text word [] = word
with_operands_text word (p ∷ ps) = word ++ 32 ∷ join_with_byte 44 (p ∷ ps)

-- the separator before an operand: a blank before the first one, and a comma before each other
abbrev pub separator : ℕ → List ℕ
separator zero = codes " "
separator (suc at) = codes ","

-- operands, of which the first one is at this place, each after its separator
abbrev pub separated_text : ℕ → List (List ℕ) → List ℕ
separated_text at [] = []
separated_text at (p ∷ ps) = separator at ++ (p ++ separated_text (suc at) ps)

-- whether an instruction is a shift of register 0 by 0
abbrev pub is_nop_by : Op → Instr → Bool
is_nop_by Sll i = (i.target == 0) && ((i.first == 0) && (i.number == 0))
is_nop_by op i = false

-- an instruction that is written as `nop`
abbrev pub is_nop : Instr → Bool
is_nop i = is_nop_by i.op i

-- an instruction as a listing writes it
abbrev pub text_of : RegisterStyle → Instr → List ℕ
text_of naming i =
    if is_nop i then codes "nop"
    else with_operands_text (operation_word i.op) (map (λ s. operand_text naming s i) (slots_of i.op))

-- an instruction as a listing writes it, with registers by their numbers
abbrev pub instr_text : Instr → List ℕ
instr_text i = text_of Numbers i

-- ---- what can be written

-- whether a word is a number that 16 bits with a sign hold
abbrev pub IsSignedHalf : ℕ → Type 0
IsSignedHalf n = (n ≤ 32767) ⊎ ((2 ^ 32 - 32768 ≤ n) × (n < 2 ^ 32))

-- an operand says what the instruction has there
abbrev pub Fits : Instr → Slot → Type 0
Fits i Into = i.target < general_count
Fits i First = i.first < general_count
Fits i Second = i.second < general_count
Fits i S16 = IsSignedHalf i.number
Fits i U16 = i.number ≤ 65535
Fits i U5 = i.number ≤ 31
Fits i Label = i.number < 2 ^ 32
Fits i Offset = IsSignedHalf i.number × (i.first < general_count)

-- each of these operands says what the instruction has there
abbrev pub AllFit : Instr → List Slot → Type 0
AllFit i [] = ⊤
AllFit i (s ∷ ss) = Fits i s × AllFit i ss

-- an instruction with the part that one operand says
abbrev pub with_slot : Instr → Slot → Parsed → Parsed
with_slot i Into p = with_target i.target p
with_slot i First p = with_first_source i.first p
with_slot i Second p = with_second_source i.second p
with_slot i S16 p = with_number i.number p
with_slot i U16 p = with_number i.number p
with_slot i U5 p = with_number i.number p
with_slot i Label p = with_label (label_text i.number) p
with_slot i Offset p = with_first_source i.first (with_number i.number p)

-- an instruction with the parts that these operands say, from the left
abbrev pub with_slots : Instr → List Slot → Parsed → Parsed
with_slots i [] p = p
with_slots i (s ∷ ss) p = with_slots i ss (with_slot i s p)

-- the parts of an instruction that its word and its operands say
abbrev pub said_of : Instr → Parsed
said_of i = with_slots i (slots_of i.op) (record { instr = bare i.op; label = None })

-- an instruction as it was read is this one, where its label stands for the address in its name
abbrev pub ReadsAsBy : Option (List ℕ) → Instr → Instr → Type 0
ReadsAsBy None found i = found ≡ i
ReadsAsBy (Some name) found i =
    (name ≡ label_text i.number) × (record found { number = i.number } ≡ i)

-- an instruction with its label, as it was read, is this one
abbrev pub ReadsAs : Parsed → Instr → Type 0
ReadsAs p i = ReadsAsBy p.label p.instr i

-- A listing can write an instruction: each operand says what the instruction has there, and what
-- has no operand is as the operation implies it.
pub record IsWritable (i : Instr) : Type 0 where
  pub fits : AllFit i (slots_of i.op)
  pub whole : ReadsAs (said_of i) i

-- ---- reading it back

-- a line of a listing is this instruction, and has no label of its own
pub record Says (line : List ℕ) (i : Instr) : Type 0 where
  pub parsed : Parsed
  pub is : read line ≡ gives_code parsed
  pub stands : ReadsAs parsed i
  pub bare_line : labels line ≡ []

-- The text of each instruction that a listing can write is read as that instruction, also after
-- any number of blanks.
abbrev pub TextIsReadBack : Type 0
TextIsReadBack =
    (naming : RegisterStyle) (i : Instr) (indent : ℕ) → IsWritable i
    → Says (replicate indent 32 ++ text_of naming i) i
