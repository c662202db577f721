-- The lines of a listing and their parts.
use Rattle.std.specs.Prelude.{◌≤◌, ℕ, zero, suc, List, length, Option, None, slice_get, slice_range}
use Rattle.std.specs.List.{after_first, before_first}
use Rattle.lexical.specs.Blank.{is_blank}
use Rattle.lexical.specs.Label.{statement_of}
use Rattle.lexical.specs.Line.{before_comment}
use Rattle.lexical.specs.Operand.{operands}
use Rattle.isa.specs.Listing.{Lines}
use Rattle.checker.specs.declared.parts.Part.{Part}

-- a line by its number, counted from 1
abbrev pub numbered_line : ℕ → Lines → Option (List ℕ)
numbered_line zero lines = None
numbered_line (suc i) lines = slice_get lines i

-- the word of a line's statement
abbrev pub word_in : List ℕ → List ℕ
word_in line = before_first is_blank (statement_of (before_comment line))

-- the operands of a line's statement
abbrev pub operands_of_line : List ℕ → List (List ℕ)
operands_of_line line = operands (after_first is_blank (statement_of (before_comment line)))

-- the part lies in the line
abbrev pub IsPartOf : List ℕ → Part → Type 0
IsPartOf line part = (part.from ≤ part.to) × (part.to ≤ length line)

-- the text of a part
abbrev pub part_text : List ℕ → Part → List ℕ
part_text line part = slice_range line part.from part.to
