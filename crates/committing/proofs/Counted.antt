-- What the commit thread has counted is what it has committed.
use Rattle.std.proofs.Common.{◌≡◌, ℕ, ◌%◌, ◌^◌, ◌<◌, arith}

-- a count that is a word is told whole
pub whole : (told added count n : ℕ) → told ≡ added % 2 ^ 64 → added ≡ count → n ≡ count → n < 2 ^ 64 → told ≡ n
whole told added count n reads counts is small = omega arith
