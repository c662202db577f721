-- The operands of a statement.
use Rattle.std.specs.Prelude.{ℕ, ◌-◌, ◌==◌, ◌&&◌, not, List, [], ◌∷◌, map, length, take, slice_index, Option, Some, None, if◌then◌else◌}
use Rattle.std.specs.List.{slice_split, before_first}
use Rattle.lexical.specs.Blank.{trim}
use Rattle.lexical.specs.Cut.{after_byte}

-- the operands of an operand part, if one remains
abbrev pub operands_left : Option (List ℕ) → List (List ℕ)
operands_left None = []
operands_left (Some text) = map trim (slice_split (λ b. b == 44) text)

-- The operand part is cut at its commas, and an empty part has no operands.
unfoldable pub operands : List ℕ → List (List ℕ)
operands text = if length (trim text) == 0 then [] else operands_left (Some (trim text))

-- the operand, where there is one alone
abbrev pub only : List (List ℕ) → Option (List ℕ)
only [] = None
only (t ∷ []) = Some t
only (t ∷ u ∷ ts) = None

-- ---- an operand with parentheses

-- the text before a `)` at the end
abbrev pub before_close : Option (List ℕ) → Option (List ℕ)
before_close None = None
before_close (Some text) =
    if not (length text == 0) && (slice_index text (length text - 1) == 41)
    then Some (take (length text - 1) text) else None

-- two texts without the blanks around them, if the second is there
abbrev pub both_trimmed : List ℕ → Option (List ℕ) → Option (List ℕ × List ℕ)
both_trimmed front None = None
both_trimmed front (Some inner) = Some (trim front, trim inner)

-- The text before the first `(`, and the text between that and a `)` at the end. None is for an operand that has no
-- `(`, or another last byte.
unfoldable pub parenthesized : List ℕ → Option (List ℕ × List ℕ)
parenthesized text = both_trimmed (before_first (λ b. b == 40) text) (before_close (after_byte 40 text))
