-- The part of a line that is at fault: the first one that its reading refuses.
use Rattle.std.specs.Prelude.{ℕ, zero, suc, ◌+◌, ◌==◌, Bool, true, false, not, nat_lt, List, [], ◌∷◌, ◌++◌, length, take, slice_get, Option, Some, None, Result, Ok, Err, codes, if◌then◌else◌}
use Rattle.std.specs.List.{find, before_first, after_first}
use Rattle.std.specs.Option.{option_map_or}
use Rattle.lexical.specs.Blank.{is_blank}
use Rattle.lexical.specs.Name.{is_plain_text}
use Rattle.lexical.specs.Operand.{operands, parenthesized}
use Rattle.lexical.specs.Line.{lines_of, before_comment}
use Rattle.lexical.specs.Label.{statement_of}
use Rattle.instructions.specs.declared.op.Op.TheVariants.{Break}
use Rattle.isa.specs.declared.listing.fault.FaultKind.{FaultKind}
use Rattle.isa.specs.declared.listing.slot.Slot.{Slot}
use Rattle.isa.specs.declared.listing.slot.Slot.TheVariants.{Offset}
use Rattle.isa.specs.declared.listing.spot.Spot.{Spot}
use Rattle.isa.specs.declared.listing.spot.Spot.TheVariants as at
use Rattle.isa.specs.Operands.{number, offset}
use Rattle.isa.specs.Forms.{Form, forms, slots, has_word, is_operation, form_with}
use Rattle.isa.specs.Statement.{Line, bare, fill, is_word}
use Rattle.isa.specs.Listing.{Lines, labels, read, stands_in, is_double, all_labels, first_fault}

-- whether a reading has a fault
abbrev pub is_fault : {A : Type 0} → Result A FaultKind → Bool
is_fault (Ok x) = false
is_fault (Err k) = true

-- ---- operands

-- whether an operand is none of its kind
abbrev pub is_refused : Slot → List ℕ → Bool
is_refused slot text = is_fault (fill slot text (record { instr = bare Break; label = None }))

-- the first of an offset and a register that is none: those of operand n
abbrev pub address_spot : ℕ → Option (List ℕ × List ℕ) → Spot
address_spot n None = at.Operand n
address_spot n (Some parts) = if is_fault (offset parts.0) then at.Offset n else at.Register n

-- the part of operand n that is none of its kind
abbrev pub operand_spot : ℕ → Slot → List ℕ → Spot
operand_spot n Offset text = address_spot n (parenthesized text)
operand_spot n _ text = at.Operand n

-- the part of the first operand that is none of its kind, from operand n on
abbrev pub operands_spot : ℕ → List Slot → List (List ℕ) → Spot
operands_spot n [] texts = at.Whole
operands_spot n (s ∷ ss) [] = at.Whole
operands_spot n (s ∷ ss) (t ∷ ts) =
    if is_refused s t then operand_spot n s t else operands_spot (n + 1) ss ts

-- the place at which n operands are too few, or too many
abbrev pub count_spot : (most n : ℕ) → Spot
count_spot most n = if nat_lt n most then at.Missing else at.Surplus most

-- the number of operands of the first form of a word
abbrev pub most_operands : List ℕ → ℕ
most_operands word = option_map_or (λ form. length (slots form.operands)) (find (has_word word) forms) 0

-- what is at fault in the operands of `.space`, of which there are n
abbrev pub space_spot : ℕ → Spot
space_spot n = if n == 1 then at.Operand 0 else count_spot 1 n

-- the first operand of `.word` that is no number in its range, from operand n on; where there is none, one is missing
abbrev pub data_spot : ℕ → List (List ℕ) → Spot
data_spot n [] = at.Missing
data_spot n (t ∷ ts) = if is_fault (number 2147483648 4294967295 t) then at.Operand n else data_spot (n + 1) ts

-- ---- a statement

-- what is at fault in an instruction whose word is an operation: its operands by the form, or their number
abbrev pub form_spot : Option Form → List ℕ → List (List ℕ) → Spot
form_spot None word parts = count_spot (most_operands word) (length parts)
form_spot (Some form) word parts = operands_spot 0 (slots form.operands) parts

-- what is at fault in a directive or an instruction, by its word
abbrev pub spot_with : List ℕ → List (List ℕ) → Spot
spot_with word parts =
    if is_word (codes ".space") word then space_spot (length parts)
    else (if is_word (codes ".word") word then data_spot 0 parts
    else (if is_operation word then form_spot (form_with word (length parts)) word parts else at.Word))

-- the part of a statement that is at fault
unfoldable pub statement_spot : List ℕ → Spot
statement_spot text = spot_with (before_first is_blank text) (operands (after_first is_blank text))

-- ---- a line

-- the first of a line's names, from name n on, that stands among earlier ones or before it in the line
abbrev pub double_spot : ℕ → (earlier names : List (List ℕ)) → Spot
double_spot n earlier [] = at.Whole
double_spot n earlier (x ∷ xs) = if stands_in earlier x then at.Label n else double_spot (n + 1) (earlier ++ x ∷ []) xs

-- the part of a statement that is at fault, or the line as a whole where only its length is
abbrev pub read_spot : Result Line FaultKind → List ℕ → Spot
read_spot (Ok l) text = at.Whole
read_spot (Err k) text = statement_spot text

-- the part of a line that is at fault, after the lines before it
unfoldable pub spot_in : Lines → List ℕ → Spot
spot_in before line =
    if not (is_plain_text (before_comment line)) then at.Whole
    else (if is_double (all_labels before) (labels line) then double_spot 0 (all_labels before) (labels line)
    else read_spot (read line) (statement_of (before_comment line)))

-- ---- a listing

-- the part of line n, counted from 1, that is at fault
abbrev pub spot_of_line : Lines → ℕ → Spot
spot_of_line ls zero = at.Whole
spot_of_line ls (suc n) = option_map_or (spot_in (take n ls)) (slice_get ls n) at.Whole

-- the part at fault of the first line that has a fault; where no line has one, a label that no line has
abbrev pub spot_by : Lines → Option (ℕ × FaultKind) → Spot
spot_by ls None = at.Target
spot_by ls (Some fault) = spot_of_line ls fault.0

-- the part that is at fault in a listing that is no program
unfoldable pub spot_of : List ℕ → Spot
spot_of bytes =
    if nat_lt 4194304 (length bytes) then at.Whole
    else spot_by (lines_of bytes) (first_fault (lines_of bytes))
