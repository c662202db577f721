-- The diagnostics of a listing that is read and not run.
use Rattle.std.specs.Prelude.{◌≡◌, ◌+◌, ℕ, Bool}
use Rattle.std.specs.Prelude.{List, [], ◌∷◌, ◌++◌, length, codes, decimal}
use Rattle.std.specs.Prelude.{Option, Some, None, Result, Ok, Err}
use Rattle.lexical.specs.Line.{lines_of}
use Rattle.isa.specs.declared.listing.fault.FaultKind.{FaultKind}
use Rattle.isa.specs.declared.listing.fault.FaultKind.TheVariants as kind
use Rattle.isa.specs.declared.listing.fault.Marked.{Marked}
use Rattle.isa.specs.Listing.{Lines, labels}
use Rattle.instructions.specs.Programs.{Program}
use Rattle.isa.specs.Report.{fault_line, newline}
use Rattle.isa.specs.Spots.{spot_of}
use Rattle.checker.specs.Parts.{IsPartOf, numbered_line}
use Rattle.checker.specs.Spots.{IsAdvice}
use Rattle.checker.specs.Faults.{AreChosen}
use Rattle.checker.specs.Warnings.{AreWarned}
use Rattle.checker.specs.declared.explanation.TheConstants.{ERROR, NOT_ASCII, UNKNOWN_OP, BAD_REGISTER, BAD_NUMBER, BAD_OPERANDS, UNKNOWN_LABEL, DOUBLE_LABEL, TOO_LONG, MEMORY}
use Rattle.checker.specs.declared.parts.Part.{Part}

-- ---- a listing without a fault

-- how many labels lines have
abbrev pub how_many_labels : Lines → ℕ
how_many_labels [] = 0
how_many_labels (l ∷ ls) = length (labels l) + how_many_labels ls

-- the summary: instructions, labels and bytes of data, a line each
abbrev pub counts_text : (instructions labels bytes : ℕ) → List ℕ
counts_text instructions labels bytes =
    codes "instructions " ++ (decimal instructions ++ (codes "\nlabels " ++ (decimal labels
    ++ (codes "\nbytes of data " ++ (decimal bytes ++ newline)))))

-- ---- a fault

-- the rule of the language that a fault breaks
abbrev pub sentence : FaultKind → List ℕ
sentence kind.NotAscii = NOT_ASCII.now
sentence kind.UnknownOp = UNKNOWN_OP.now
sentence kind.BadRegister = BAD_REGISTER.now
sentence kind.BadNumber = BAD_NUMBER.now
sentence kind.BadOperands = BAD_OPERANDS.now
sentence kind.UnknownLabel = UNKNOWN_LABEL.now
sentence kind.DoubleLabel = DOUBLE_LABEL.now
sentence kind.TooLong = TOO_LONG.now
sentence kind.Memory = MEMORY.now

-- the beginning of a diagnostic of a fault
abbrev pub error : List ℕ
error = ERROR.now

-- the diagnostic of a fault of the listing as a whole, behind the name of the file as it is shown
abbrev pub whole : (file : List ℕ) → FaultKind → List ℕ
whole file kind = file ++ (codes ": " ++ (error ++ (sentence kind ++ newline)))

-- the new text is the old one with the diagnostic of a fault behind it: its place in a line with a mark under some part, some
-- help, the rule that is broken, and a note
pub record IsExplanation (file : List ℕ) (found : Marked) (line old new : List ℕ) : Type 0 where
  pub part : Part
  pub help : List ℕ
  pub text : List ℕ
  pub note : List ℕ
  pub lies : IsPartOf line part
  pub advice : IsAdvice file found.fault.line part error help (sentence found.fault.kind) old text
  pub is : new ≡ text ++ note

-- a fault of the listing as a whole has no line
abbrev pub IsExplanationBehind : (file : List ℕ) → Marked → Option (List ℕ) → (old new : List ℕ) → Type 0
IsExplanationBehind file found None old new = new ≡ old ++ whole file found.fault.kind
IsExplanationBehind file found (Some line) old new = IsExplanation file found line old new

-- the new text is the old one with the diagnostics of these faults behind it
abbrev pub AreExplained : (file bytes : List ℕ) → List Marked → (old new : List ℕ) → Type 0
AreExplained file bytes [] old new = new ≡ old
AreExplained file bytes (f ∷ fs) old new = (text : List ℕ)
    × (IsExplanationBehind file f (numbered_line f.fault.line (lines_of bytes)) old text × AreExplained file bytes fs text new)

-- the line that a report has for the fault, and the diagnostics of the chosen faults
abbrev pub IsExplained : (file : List ℕ) → (all : Bool) → (bytes : List ℕ) → Marked → List ℕ → Type 0
IsExplained file all bytes first text = (chosen : List Marked)
    × (AreChosen all bytes first chosen × AreExplained file bytes chosen (fault_line first.fault.line first.fault.kind) text)

-- ---- any listing

-- the status and the text for the program of a listing, or for its fault, with the name of the file as it is shown
abbrev pub IsCheckOf : (file : List ℕ) → (all : Bool) → (bytes : List ℕ) → Result Program (ℕ × FaultKind) → ℕ → List ℕ → Type 0
IsCheckOf file all bytes (Ok P) status text =
    (status ≡ 0)
    × AreWarned file bytes P (counts_text (length P.code) (how_many_labels (lines_of bytes)) (length P.bytes)) text
IsCheckOf file all bytes (Err fault) status text =
    (status ≡ 2) × IsExplained file all bytes (record { fault = record { line = fault.0; kind = fault.1 }; at = spot_of bytes }) text
