-- Numbers in a file, the lowest byte first.
use Rattle.std.specs.Prelude.{ℕ, zero, suc, ◌+◌, ◌*◌, ◌^◌, List, [], ◌∷◌, ◌++◌, slice_index}

-- two bytes as a number
abbrev pub half_at : List ℕ → ℕ → ℕ
half_at file at = slice_index file at + slice_index file (at + 1) * 2 ^ 8

-- four bytes as a number
abbrev pub word_at : List ℕ → ℕ → ℕ
word_at file at = half_at file at + half_at file (at + 2) * 2 ^ 16

-- n words, one after the other
unfoldable pub words : List ℕ → ℕ → ℕ → List ℕ
words file at zero = []
words file at (suc n) = words file at n ++ word_at file (at + 4 * n) ∷ []
