-- How long units are held back.
use Rattle.std.specs.Prelude.{◌+◌, ◌/◌, ◌%◌, ℕ}
use Rattle.rand_pcg.specs.Lcg.{advance, increment_of, started}
use Rattle.rand_pcg.specs.Pcg.{multiplier_64, pcg32}

-- the nth word of the generator PCG32, begun with the seed as its state, in the stream of a unit
abbrev pub random_word : (seed unit n : ℕ) → ℕ
random_word seed unit n = (pcg32 (advance 64 multiplier_64 n (started 64 multiplier_64 seed (increment_of 64 unit)))).0

-- how many questions a word stands for
abbrev pub questions_of : (word : ℕ) → ℕ
questions_of word = word / 256 % (word % 64 + 1)
