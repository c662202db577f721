-- The lines of a listing.
use Rattle.std.specs.Prelude.{◌≡◌, ℕ, ◌==◌, List, [], ◌∷◌, map, Option, Some, None, if◌then◌else◌}
use Rattle.std.specs.List.{slice_split, before_first}
use Rattle.std.specs.Str.Lines.{strip_carriage_return}
use Rattle.lexical.specs.Name.{is_plain_text}

-- Lines end by a line feed, and the last one may lack it. A carriage return just before a line
-- feed, or at the very end, is dropped.
abbrev pub lines_of : List ℕ → List (List ℕ)
lines_of bytes = map strip_carriage_return (slice_split (λ b. b == 10) bytes)

-- the lines of a text that remains
abbrev pub lines_left : Option (List ℕ) → List (List ℕ)
lines_left None = []
lines_left (Some text) = lines_of text

-- the text before the first `#`
abbrev pub before_comment : List ℕ → List ℕ
before_comment line = before_first (λ b. b == 35) line

-- the text before the first `#`, where each of its bytes may stand there
abbrev pub plain_code : List ℕ → Option (List ℕ)
plain_code line = if is_plain_text (before_comment line) then Some (before_comment line) else None

-- the code of the first line of a text, and the text that remains after that line
pub record IsFirstCode (text : List ℕ) (code rest : Option (List ℕ)) : Type 0 where
  pub line : List ℕ
  pub lines : lines_of text ≡ line ∷ lines_left rest
  pub code_is : code ≡ plain_code line
