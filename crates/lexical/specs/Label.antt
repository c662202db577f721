-- The labels of a line, and its statement. A line is any number of labels, each a name and a colon,
-- and then at most one statement.
use Rattle.std.specs.Prelude.{ℕ, ◌==◌, List, [], ◌∷◌, if◌then◌else◌}
use Rattle.std.specs.List.{slice_split, join_with_byte}
use Rattle.lexical.specs.Blank.{trim}
use Rattle.lexical.specs.Name.{is_name}

-- Of the parts between colons, the names at the front are labels; the last part is none.
abbrev pub labels_in : List (List ℕ) → List (List ℕ)
labels_in [] = []
labels_in (p ∷ []) = []
labels_in (p ∷ q ∷ ps) = if is_name (trim p) then trim p ∷ labels_in (q ∷ ps) else []

-- The other parts, with the colons between them, are the statement.
abbrev pub statement_in : List (List ℕ) → List ℕ
statement_in [] = []
statement_in (p ∷ []) = trim p
statement_in (p ∷ q ∷ ps) =
    if is_name (trim p) then statement_in (q ∷ ps) else trim (join_with_byte 58 (p ∷ q ∷ ps))

-- the labels of the code of a line
unfoldable pub labels_of : List ℕ → List (List ℕ)
labels_of code = labels_in (slice_split (λ b. b == 58) code)

-- the statement of the code of a line
unfoldable pub statement_of : List ℕ → List ℕ
statement_of code = statement_in (slice_split (λ b. b == 58) code)
