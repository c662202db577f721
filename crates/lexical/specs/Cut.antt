-- A text cut at each byte of one value, and the text after the first such byte.
use Rattle.std.specs.Prelude.{ℕ, ◌==◌, List, [], ◌∷◌, Option, Some, None, if◌then◌else◌}
use Rattle.std.specs.List.{slice_split}

-- The parts, between the bytes `at`, of a text that remains. Where none remains, there are no parts.
abbrev pub parts_left : ℕ → Option (List ℕ) → List (List ℕ)
parts_left at None = []
parts_left at (Some text) = slice_split (λ b. b == at) text

-- the text after the first byte `at`, if there is one
abbrev pub after_byte : ℕ → List ℕ → Option (List ℕ)
after_byte at [] = None
after_byte at (b ∷ bs) = if b == at then Some bs else after_byte at bs
