-- Where the words of each group stand in the table.
use Rattle.std.specs.Prelude.{ℕ, ◌+◌, ◌*◌, ◌<◌}
use Rattle.inorder.specs.declared.history.Source.{Source}
use Rattle.inorder.specs.declared.history.Source.TheVariants.{First, Second}
use Rattle.ruu_words.specs.declared.place.Place.{Place}
use Rattle.ruu_words.specs.declared.place.Place.TheVariants.{Station, Info, Operand, Link}

-- Sources as numbers from 0
abbrev pub number : Source → ℕ
number First = 0
number Second = 1

-- n is the number of stations
abbrev pub index : ℕ → Place → ℕ
index n (Station s) = s
index n (Info s) = n + s
index n (Operand s k) = 2 * n + 2 * s + number k
index n (Link p c k) = 4 * n + 2 * (p * n + c) + number k

-- The stations of the place are in the ring
abbrev pub IsPlace : ℕ → Place → Type 0
IsPlace n (Station s) = s < n
IsPlace n (Info s) = s < n
IsPlace n (Operand s k) = s < n
IsPlace n (Link p c k) = (p < n) × (c < n)

-- How many words a ring of n stations has
abbrev pub words_for : ℕ → ℕ
words_for n = 4 * n + 2 * (n * n)
