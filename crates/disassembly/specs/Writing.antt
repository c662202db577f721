-- The text of a listing that is made, and the program that it says.
use Rattle.std.specs.Prelude.{⊤, ◌≡◌, ℕ, zero, suc, ◌+◌, ◌≤◌, ◌<◌, Bool, true, false, ◌&&◌, nat_le, List, [], ◌∷◌, ◌++◌, length, replicate, None, Ok, codes, slice_index, slice_index_or, ◌==◌, if◌then◌else◌}
use Rattle.std.specs.List.{flat_map, list_all}
use Rattle.instructions.specs.declared.instr.Instr.{Instr}
use Rattle.isa.specs.declared.listing.instr_text.RegisterStyle.TheVariants.{Names}
use Rattle.std.specs.Fmt.{decimal}
use Rattle.std.specs.Int.{w32, from_le_bytes}
use Rattle.isa.specs.Report.{hexadecimal}
use Rattle.instructions.specs.Programs.{address}
use Rattle.isa.specs.Statement.{Parsed}
use Rattle.isa.specs.Listing.{Lines, read, labels, table, numbered, memory, fault_in}
use Rattle.isa.specs.InstrText.{with_operands_text, text_of, label_text, IsWritable, ReadsAs}
use Rattle.instructions.specs.Targets.{names_target}
use Rattle.disassembly.specs.Meaning.{is_inside}

-- ---- lines

-- a line with its line feed
abbrev pub as_line : List ℕ → List ℕ
as_line line = line ++ 10 ∷ []

-- the text of some lines
abbrev pub unlines : Lines → List ℕ
unlines lines = flat_map as_line lines

-- whether a byte is printable ASCII
abbrev pub printable : ℕ → Bool
printable b = nat_le 32 b && nat_le b 126

-- a line without a label and without a statement
pub record IsBlankLine (line : List ℕ) : Type 0 where
  pub bytes : list_all printable line ≡ true
  pub labels_are : labels line ≡ []
  pub read_is : read line ≡ Ok (record { code = []; bytes = [] })

-- none of these lines says anything to the parser
abbrev pub AllQuiet : Lines → Type 0
AllQuiet [] = ⊤
AllQuiet (l ∷ ls) = IsBlankLine l × AllQuiet ls

-- ---- the lines of an instruction

-- the line of the label of instruction k
abbrev pub label_line : ℕ → List ℕ
label_line k = label_text (address k) ++ codes ":"

-- the line of a label, where the instruction has one
abbrev pub label_lines : ℕ → Bool → Lines
label_lines k true = label_line k ∷ []
label_lines k false = []

-- the line of an instruction
abbrev pub code_line : Instr → List ℕ
code_line i = replicate 8 32 ++ text_of Names i

-- the comment with a name
abbrev pub comment_line : List ℕ → List ℕ
comment_line name = codes "# " ++ name

-- an empty line, but before the first instruction
abbrev pub gap_lines : ℕ → Lines
gap_lines zero = []
gap_lines (suc k) = [] ∷ []

-- A text grew by lines that say nothing, at most so long.
pub record IsQuieter (most : ℕ) (old new : List ℕ) : Type 0 where
  pub lines : Lines
  pub quiet : AllQuiet lines
  pub grown : new ≡ old ++ unlines lines
  pub short : length (unlines lines) ≤ most

-- ---- instructions with a label

-- an address is that of an instruction that has a label
pub record IsLabelled (marks : List Bool) (target : ℕ) : Type 0 where
  pub index : ℕ
  pub inside : index < length marks
  pub is : target ≡ address index
  pub set : slice_index_or marks index false ≡ true

-- the label of instruction k with its address, if it has one
abbrev pub with_mark : ℕ → Bool → List (List ℕ × ℕ)
with_mark k true = (label_text (address k), address k) ∷ []
with_mark k false = []

-- the labels of the first k instructions, in their order
unfoldable pub marked : List Bool → ℕ → List (List ℕ × ℕ)
marked marks zero = []
marked marks (suc k) = marked marks k ++ with_mark k (slice_index_or marks k false)

-- ---- instructions that can be written

-- a listing can write the instruction, and its target is one of n instructions
pub record IsSound (n : ℕ) (i : Instr) : Type 0 where
  pub writable : IsWritable i
  pub inside : names_target i.op ≡ true → is_inside n i.number ≡ true

-- a listing can write each of these, and their targets are among n instructions
abbrev pub AllSound : ℕ → List Instr → Type 0
AllSound n [] = ⊤
AllSound n (i ∷ is) = IsSound n i × AllSound n is

-- each target among n instructions has a label
abbrev pub AllMarked : List Bool → ℕ → List Instr → Type 0
AllMarked marks n [] = ⊤
AllMarked marks n (i ∷ is) =
    (names_target i.op ≡ true → is_inside n i.number ≡ true → IsLabelled marks i.number)
    × AllMarked marks n is

-- ---- the meaning of lines

-- each line is printable ASCII
abbrev pub AllPrintable : Lines → Type 0
AllPrintable [] = ⊤
AllPrintable (l ∷ ls) = (list_all printable l ≡ true) × AllPrintable ls

-- no line has a fault, after those before it
abbrev pub Faultless : Lines → Lines → Type 0
Faultless before [] = ⊤
Faultless before (l ∷ ls) = (fault_in before l ≡ None) × Faultless (before ++ l ∷ []) ls

-- the instruction that was read is this one, and has a label only if its operation names a target
pub record IsReadAs (p : Parsed) (i : Instr) : Type 0 where
  pub stands : ReadsAs p i
  pub unlabelled : names_target i.op ≡ false → p.label ≡ None

-- each line was read as its instruction, in their order
abbrev pub AllRead : List (ℕ × Parsed) → List Instr → Type 0
AllRead [] [] = ⊤
AllRead [] (i ∷ is) = ⊥
AllRead (d ∷ ds) [] = ⊥
AllRead (d ∷ ds) (i ∷ is) = IsReadAs d.1 i × AllRead ds is

-- lines say these instructions, labels and bytes
pub record LinesSay (lines : Lines) (code : List Instr) (names : List (List ℕ × ℕ))
    (bytes : List ℕ) : Type 0 where
  pub printed : AllPrintable lines
  pub faultless : Faultless [] lines
  pub code_is : AllRead (numbered 1 lines) code
  pub labels_are : table 0 lines ≡ names
  pub bytes_are : memory lines ≡ bytes

-- a text of at most n bytes has such lines
pub record IsText (text : List ℕ) (code : List Instr) (names : List (List ℕ × ℕ))
    (bytes : List ℕ) (most : ℕ) : Type 0 where
  pub lines : Lines
  pub is : text ≡ unlines lines
  pub written : LinesSay lines code names bytes
  pub short : length text ≤ most

-- ---- data

-- the word of four bytes of a row
abbrev pub row_word : List ℕ → ℕ → ℕ
row_word row at =
    from_le_bytes w32
    (slice_index row at ∷ slice_index row (at + 1) ∷ slice_index row (at + 2)
    ∷ slice_index row (at + 3) ∷ [])

-- the words of a row
abbrev pub row_words : List ℕ → List (List ℕ)
row_words row =
    hexadecimal (row_word row 0) ∷ hexadecimal (row_word row 4) ∷ hexadecimal (row_word row 8)
    ∷ hexadecimal (row_word row 12) ∷ []

-- the line of 16 bytes, with their address after them
abbrev pub row_line : ℕ → List ℕ → List ℕ
row_line at row =
    (replicate 8 32 ++ with_operands_text (codes ".word") (row_words row))
    ++ (codes " # " ++ hexadecimal at)

-- the line that asks for n bytes of memory
abbrev pub space_line : ℕ → List ℕ
space_line count =
    replicate 8 32 ++ with_operands_text (codes ".space") (decimal count ∷ [])

-- the line that asks for n bytes of memory; none where these are 0
abbrev pub space_lines : ℕ → Lines
space_lines count = if count == 0 then [] else space_line count ∷ []

-- a text that says instructions and no bytes says them and these bytes as well
abbrev pub AddsData : List ℕ → List ℕ → List ℕ → Type 0
AddsData bytes old new =
    (code : List Instr) (names : List (List ℕ × ℕ)) (most : ℕ)
    → length code ≤ 16384 → IsText old code names [] most
    → IsText new code names bytes (most + 500000)
