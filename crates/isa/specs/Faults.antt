-- The table of the faults of a line: the kinds in their order, each with whether it holds.
use Rattle.std.specs.Prelude.{◌≡◌, ℕ, zero, suc, ◌%◌, ◌<◌, ◌==◌, ◌||◌, Bool, true, false, not, nat_lt, List, [], ◌∷◌, ◌++◌, length, take, drop, slice_get, Option, Some, None, is_none, if◌then◌else◌, codes}
use Rattle.std.specs.List.{flat_map, find, before_first, after_first}
use Rattle.std.specs.Option.{option_map}
use Rattle.lexical.specs.Blank.{is_blank}
use Rattle.lexical.specs.Name.{is_name, is_plain_text}
use Rattle.lexical.specs.Number.{first_is, begins_number, number_in}
use Rattle.lexical.specs.Operand.{operands, parenthesized}
use Rattle.lexical.specs.Line.{before_comment}
use Rattle.lexical.specs.Label.{statement_of}
use Rattle.isa.specs.declared.listing.fault.FaultKind.{FaultKind}
use Rattle.isa.specs.declared.listing.fault.FaultKind.TheVariants.{NotAscii, DoubleLabel, UnknownOp, BadOperands, BadRegister, BadNumber, TooLong}
use Rattle.isa.specs.declared.listing.slot.Slot.{Slot}
use Rattle.isa.specs.declared.listing.slot.Slot.TheVariants.{Into, First, Second, S16, U16, U5, Label, Offset}
use Rattle.isa.specs.RegisterNames.{register_number, existing}
use Rattle.isa.specs.Forms.{Form, is_operation, form_with, slots}
use Rattle.isa.specs.Statement.{is_word}
use Rattle.isa.specs.Listing.{Lines, labels, numbered, memory, instruction_count, stands_in, is_double, all_labels}

-- a kind of fault, and whether it holds
abbrev pub Fault : Type 0
Fault = FaultKind × Bool

-- the first kind that holds
abbrev pub first_kind : List Fault → Option FaultKind
first_kind [] = None
first_kind (f ∷ fs) = if f.1 then Some f.0 else first_kind fs

-- ---- one operand

-- the faults of a register: `$`, and a number or a name
abbrev pub register_faults : List ℕ → List Fault
register_faults text =
    (BadOperands, not (first_is 36 text))
    ∷ (BadRegister, is_none (existing (register_number (drop 1 text))))
    ∷ []

-- the faults of a number, at most `below` after a minus, and at most `above` without one
abbrev pub number_faults : ℕ → ℕ → List ℕ → List Fault
number_faults below above text =
    (BadOperands, not (begins_number text)) ∷ (BadNumber, is_none (number_in below above text)) ∷ []

-- the faults of a label
abbrev pub label_faults : List ℕ → List Fault
label_faults text = (BadOperands, not (is_name text)) ∷ []

-- the faults of an offset, which may be left out
abbrev pub offset_faults : List ℕ → List Fault
offset_faults text = if length text == 0 then [] else number_faults 32768 32767 text

-- the faults of an offset and a register in parentheses, if they are there
abbrev pub address_faults : Option (List ℕ × List ℕ) → List Fault
address_faults None = (BadOperands, true) ∷ []
address_faults (Some parts) = offset_faults parts.0 ++ register_faults parts.1

-- the faults of an operand, by its kind
abbrev pub operand_faults : Slot → List ℕ → List Fault
operand_faults Into text = register_faults text
operand_faults First text = register_faults text
operand_faults Second text = register_faults text
operand_faults S16 text = number_faults 32768 32767 text
operand_faults U16 text = number_faults 0 65535 text
operand_faults U5 text = number_faults 0 31 text
operand_faults Label text = label_faults text
operand_faults Offset text = address_faults (parenthesized text)

-- ---- a statement

-- the faults of operands, from the left
abbrev pub operands_faults : List Slot → List (List ℕ) → List Fault
operands_faults [] texts = []
operands_faults (s ∷ ss) [] = []
operands_faults (s ∷ ss) (t ∷ ts) = operand_faults s t ++ operands_faults ss ts

-- the kinds of the operands of a form, if there is one
abbrev pub slots_if : Option Form → List Slot
slots_if None = []
slots_if (Some form) = slots form.operands

-- the faults of an instruction: its word, the number of its operands, and then the operands
abbrev pub instruction_faults : List ℕ → List (List ℕ) → List Fault
instruction_faults word parts =
    (UnknownOp, not (is_operation word))
    ∷ (BadOperands, is_none (form_with word (length parts)))
    ∷ operands_faults (slots_if (form_with word (length parts))) parts

-- whether a number is there and is a multiple of 4
abbrev pub is_size : Option ℕ → Bool
is_size None = false
is_size (Some n) = n % 4 == 0

-- the faults of the number of bytes that `.space` adds
abbrev pub size_faults : List ℕ → List Fault
size_faults text =
    (BadOperands, not (begins_number text))
    ∷ (BadNumber, not (is_size (number_in 0 65536 text)))
    ∷ []

-- the faults of `.space`, which has one operand
abbrev pub space_faults : List (List ℕ) → List Fault
space_faults parts = (BadOperands, not (length parts == 1)) ∷ flat_map size_faults parts

-- the faults of `.word`, which has one operand or more
abbrev pub words_faults : List (List ℕ) → List Fault
words_faults parts =
    (BadOperands, length parts == 0) ∷ flat_map (number_faults 2147483648 4294967295) parts

-- the faults of a directive or an instruction, by its word
abbrev pub faults_with : List ℕ → List (List ℕ) → List Fault
faults_with word parts =
    if is_word (codes ".space") word then space_faults parts
    else (if is_word (codes ".word") word then words_faults parts
    else instruction_faults word parts)

-- the faults of a statement; an empty one has none
unfoldable pub statement_faults : List ℕ → List Fault
statement_faults text =
    if length text == 0 then []
    else faults_with (before_first is_blank text) (operands (after_first is_blank text))

-- ---- a line

-- whether lines have too many instructions, or too many bytes of data
abbrev pub are_too_long : Lines → Bool
are_too_long ls = nat_lt 16384 (instruction_count ls) || nat_lt 65536 (length (memory ls))

-- the faults of a line, after the lines before it
abbrev pub line_faults : Lines → List ℕ → List Fault
line_faults before line =
    (NotAscii, not (is_plain_text (before_comment line)))
    ∷ (DoubleLabel, is_double (all_labels before) (labels line))
    ∷ (statement_faults (statement_of (before_comment line))
    ++ (TooLong, are_too_long (before ++ line ∷ [])) ∷ [])

-- the faults of a line, if it is there
abbrev pub faults_if : Lines → Option (List ℕ) → List Fault
faults_if before None = []
faults_if before (Some line) = line_faults before line

-- the faults of line n, counted from 1
abbrev pub faults_of_line : Lines → ℕ → List Fault
faults_of_line ls zero = []
faults_of_line ls (suc n) = faults_if (take n ls) (slice_get ls n)

-- ---- a listing

-- line n has no fault
abbrev pub IsFaultless : Lines → ℕ → Type 0
IsFaultless ls n = first_kind (faults_of_line ls n) ≡ None

-- line n is the first that has a fault, and this is its first kind that holds
pub record IsFirstFault (ls : Lines) (n : ℕ) (kind : FaultKind) : Type 0 where
  pub kind_is : first_kind (faults_of_line ls n) ≡ Some kind
  pub before : (m : ℕ) → m < n → IsFaultless ls m

-- the label that an instruction names, if it names one, is none of these
abbrev pub is_unknown : List (List ℕ) → Option (List ℕ) → Bool
is_unknown names None = false
is_unknown names (Some name) = not (stands_in names name)

-- the line of the first instruction that names a label which no line has
abbrev pub unknown_label_line : Lines → Option ℕ
unknown_label_line ls =
    option_map (λ d. d.0) (find (λ d. is_unknown (all_labels ls) d.1.label) (numbered 1 ls))

-- no line has a fault, and line n is the first with a label that no line has
pub record IsUnknownLabel (ls : Lines) (n : ℕ) : Type 0 where
  pub faultless : (m : ℕ) → IsFaultless ls m
  pub line : unknown_label_line ls ≡ Some n

-- no line has a fault or a label that no line has
pub record HasNoFault (ls : Lines) : Type 0 where
  pub faultless : (m : ℕ) → IsFaultless ls m
  pub known : unknown_label_line ls ≡ None
