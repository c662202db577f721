-- The state of the reader of a listing after the lines that it has read.
use Rattle.std.specs.Prelude.{◌≡◌, ℕ, ◌++◌, List, [], ◌∷◌, length, Option, Some, None, Result, Ok}
use Rattle.isa.specs.declared.listing.fault.FaultKind.{FaultKind}
use Rattle.isa.specs.declared.listing.fault.LineFault.{LineFault}
use Rattle.instructions.specs.declared.instr.Instr.{Instr}
use Rattle.isa.specs.declared.listing.line.Target.{Target}
use Rattle.isa.specs.declared.listing.statement.Added.{Added}
use Rattle.std.specs.Option.{option_map}
use Rattle.isa.specs.Statement.{Parsed, Line}
use Rattle.lexical.specs.Line.{lines_of, lines_left}
use Rattle.isa.specs.Labels.{LabelMap, AreHeld}
use Rattle.isa.specs.Listing.{Lines, table, numbered, memory, fault_in}
use Rattle.isa.specs.Spots.{spot_in}

-- the label that an instruction names
abbrev pub name_of : Target → Option (List ℕ)
name_of t = option_map (λ name. name.now) t.label

-- instructions with the numbers of their lines and their labels
abbrev pub rows : List Instr → List Target → List (ℕ × Parsed)
rows [] ts = []
rows (i ∷ is) [] = []
rows (i ∷ is) (t ∷ ts) = (t.line, record { instr = i; label = name_of t }) ∷ rows is ts

-- bytes were read and added
pub record IsAppended (read : Result (List ℕ) FaultKind) (old new : List ℕ) : Type 0 where
  pub bytes : List ℕ
  pub grown : new ≡ old ++ bytes
  pub is : read ≡ Ok bytes

-- a statement was read: its instructions are these, and its bytes were added
pub record IsAdded (read : Result Line FaultKind) (code : List Parsed) (old new : List ℕ)
    : Type 0 where
  pub bytes : List ℕ
  pub grown : new ≡ old ++ bytes
  pub is : read ≡ Ok (record { code = code; bytes = bytes })

-- the label that the instruction of a line names
abbrev pub label_of : List Parsed → Option (List ℕ)
label_of [] = None
label_of (p ∷ ps) = p.label

-- how much a line adds to a program, and the label that its instruction names
pub record IsSizeOf (line : Line) (added : Added) : Type 0 where
  pub instructions : added.instructions ≡ length line.code
  pub bytes : added.bytes ≡ length line.bytes
  pub label : option_map (λ t. t.now) added.label ≡ label_of line.code

-- the state after the lines that were read
pub record IsRead (before : Lines) (labels : LabelMap) (code : List Instr) (ts : List Target)
    (bytes : List ℕ) : Type 0 where
  pub labels_are : AreHeld labels (table 0 before)
  pub length_is : length code ≡ length ts
  pub code_is : rows code ts ≡ numbered 1 before
  pub bytes_are : bytes ≡ memory before

-- the first line of a text was read: it has no fault, and this is the state after it
pub record IsReadLine (before : Lines) (text : List ℕ) (rest : Option (List ℕ)) (labels : LabelMap)
    (code : List Instr) (ts : List Target) (bytes : List ℕ) : Type 0 where
  pub line : List ℕ
  pub lines : lines_of text ≡ line ∷ lines_left rest
  pub fault : fault_in before line ≡ None
  pub read : IsRead (before ++ line ∷ []) labels code ts bytes

-- a line has this fault, in this part
abbrev pub IsFaultIn : (before : Lines) → (line : List ℕ) → LineFault → Type 0
IsFaultIn before line found = (fault_in before line ≡ Some found.kind) × (found.at ≡ spot_in before line)

-- the first line of a text has this fault
pub record IsFaultLine (before : Lines) (text : List ℕ) (found : LineFault) : Type 0 where
  pub line : List ℕ
  pub others : Lines
  pub lines : lines_of text ≡ line ∷ others
  pub fault : IsFaultIn before line found
