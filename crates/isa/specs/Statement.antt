-- A statement: a word up to the next blank or the end, and its operands.
use Rattle.std.specs.Prelude.{ℕ, ◌%◌, ◌==◌, Bool, true, false, List, [], ◌∷◌, ◌++◌, length, replicate, Option, Some, None, Result, Ok, Err, ok_or, if◌then◌else◌, codes}
use Rattle.std.specs.List.{before_first, after_first}
use Rattle.std.specs.Option.{option_map}
use Rattle.std.specs.Int.{w32, to_le_bytes}
use Rattle.std.specs.Str.{str_eq_ignore_ascii_case}
use Rattle.lexical.specs.Blank.{is_blank}
use Rattle.lexical.specs.Operand.{operands, only}
use Rattle.instructions.specs.declared.op.Op.{Op}
use Rattle.instructions.specs.declared.op.Op.TheVariants.{Mflo, Mfhi, Mtlo, Mthi, Jal, Jalr}
use Rattle.instructions.specs.declared.instr.Instr.{Instr}
use Rattle.instructions.specs.Registers.{lo, hi}
use Rattle.isa.specs.declared.listing.fault.FaultKind.{FaultKind}
use Rattle.isa.specs.declared.listing.fault.FaultKind.TheVariants.{BadOperands, BadNumber}
use Rattle.isa.specs.declared.listing.slot.Slot.{Slot}
use Rattle.isa.specs.declared.listing.slot.Slot.TheVariants.{Into, First, Second, S16, U16, U5, Label, Offset}
use Rattle.isa.specs.declared.listing.instruction.Draft.{Draft}
use Rattle.isa.specs.Reading.{◌>>=◌}
use Rattle.isa.specs.RegisterNames.{register}
use Rattle.isa.specs.Operands.{number, signed_half, label, offset_and_register}
use Rattle.isa.specs.Forms.{form_of, slots}

-- ---- instructions

-- an instruction, and the name of its label
pub record Parsed : Type 0 where
  pub instr : Instr
  pub label : Option (List ℕ)

-- the register that `jal` writes, and `jalr` where it names none, and that of a move to LO or HI
abbrev pub implied_target : Op → ℕ
implied_target Jal = 31
implied_target Jalr = 31
implied_target Mtlo = lo
implied_target Mthi = hi
implied_target _ = 0

-- the register that a move from LO or HI reads
abbrev pub implied_source : Op → ℕ
implied_source Mflo = lo
implied_source Mfhi = hi
implied_source _ = 0

-- an operation before its operands
abbrev pub bare : Op → Instr
bare op =
    record {
      op = op;
      target = implied_target op;
      first = implied_source op;
      second = 0;
      number = 0;
    }

-- an instruction with the register that it writes
abbrev pub with_target : ℕ → Parsed → Parsed
with_target r p = record { instr = record p.instr { target = r }; label = p.label }

-- an instruction with the register of source 1
abbrev pub with_first_source : ℕ → Parsed → Parsed
with_first_source r p = record { instr = record p.instr { first = r }; label = p.label }

-- an instruction with the register of source 2
abbrev pub with_second_source : ℕ → Parsed → Parsed
with_second_source r p = record { instr = record p.instr { second = r }; label = p.label }

-- an instruction with its number
abbrev pub with_number : ℕ → Parsed → Parsed
with_number n p = record { instr = record p.instr { number = n }; label = p.label }

-- an instruction with the name of its label
abbrev pub with_label : List ℕ → Parsed → Parsed
with_label name p = record { instr = p.instr; label = Some name }

-- an instruction with one more operand
unfoldable pub fill : Slot → List ℕ → Parsed → Result Parsed FaultKind
fill Into text p = register text >>= λ r. Ok (with_target r p)
fill First text p = register text >>= λ r. Ok (with_first_source r p)
fill Second text p = register text >>= λ r. Ok (with_second_source r p)
fill S16 text p = signed_half text >>= λ n. Ok (with_number n p)
fill U16 text p = number 0 65535 text >>= λ n. Ok (with_number n p)
fill U5 text p = number 0 31 text >>= λ n. Ok (with_number n p)
fill Label text p = label text >>= λ name. Ok (with_label name p)
fill Offset text p = offset_and_register text >>= λ a. Ok (with_first_source a.1 (with_number a.0 p))

-- an instruction with all operands, from the left
unfoldable pub filled : List Slot → List (List ℕ) → Parsed → Result Parsed FaultKind
filled [] texts p = Ok p
filled (s ∷ ss) [] p = Err BadOperands
filled (s ∷ ss) (t ∷ ts) p = fill s t p >>= filled ss ts

-- an instruction: the operation of a word, with its operands
unfoldable pub instruction : List ℕ → List (List ℕ) → Result Parsed FaultKind
instruction word parts = do
  form ← form_of word (length parts)
  filled (slots form.operands) parts (record { instr = bare form.op; label = None })

-- ---- directives

-- `.space n`: n zero bytes, where n is a multiple of 4
unfoldable pub space : List (List ℕ) → Result (List ℕ) FaultKind
space parts = do
  text ← ok_or (only parts) BadOperands
  n ← number 0 65536 text
  if n % 4 == 0 then Ok (replicate n 0) else Err BadNumber

-- `.word v,..`: each number as four bytes, the lowest first
unfoldable pub words : List (List ℕ) → Result (List ℕ) FaultKind
words [] = Ok []
words (t ∷ ts) =
    number 2147483648 4294967295 t >>= λ n. words ts >>= λ bytes. Ok (to_le_bytes w32 n ++ bytes)

-- the bytes of `.word`, which has one number or more
abbrev pub data_words : List (List ℕ) → Result (List ℕ) FaultKind
data_words parts = if length parts == 0 then Err BadOperands else words parts

-- ---- statements

-- the part of the program that a line gives: at most one instruction, or bytes of data memory
pub record Line : Type 0 where
  pub code : List Parsed
  pub bytes : List ℕ

-- a line with one instruction
abbrev pub gives_code : Parsed → Result Line FaultKind
gives_code p = Ok (record { code = p ∷ []; bytes = [] })

-- a line with bytes of data
abbrev pub gives_bytes : List ℕ → Result Line FaultKind
gives_bytes bytes = Ok (record { code = []; bytes = bytes })

-- whether a text is this word, in letters of either case
abbrev pub is_word : List ℕ → List ℕ → Bool
is_word word text = str_eq_ignore_ascii_case word text

-- the form of a directive, where the word is that of one
unfoldable pub directive_text : List ℕ → Option (List ℕ)
directive_text word =
    if is_word (codes ".space") word then Some (codes ".space n with n a multiple of 4 from 0 to 65536")
    else (if is_word (codes ".word") word
    then Some (codes ".word n,.. with each n from -2147483648 to 4294967295") else None)

-- a directive or an instruction, by its word
unfoldable pub with_operands : List ℕ → List (List ℕ) → Result Line FaultKind
with_operands word parts =
    if is_word (codes ".space") word then space parts >>= gives_bytes
    else (if is_word (codes ".word") word then data_words parts >>= gives_bytes
    else instruction word parts >>= gives_code)

-- the part of the program that a statement gives; an empty one gives nothing
unfoldable pub statement : List ℕ → Result Line FaultKind
statement text =
    if length text == 0 then gives_bytes []
    else with_operands (before_first is_blank text) (operands (after_first is_blank text))

-- ---- drafts in the code

-- an instruction with its label, as the code holds it
abbrev pub draft_view : Draft → Parsed
draft_view d = record { instr = d.instr; label = option_map (λ t. t.now) d.label }

-- the instructions of a statement that has one or none
abbrev pub code_if : Bool → Parsed → List Parsed
code_if true p = p ∷ []
code_if false p = []
