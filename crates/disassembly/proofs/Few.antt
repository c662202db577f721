-- What holds of a few numbers, where a computation shows it.
use Rattle.std.proofs.Common.{◌≡◌, ℕ, zero, suc, ◌<◌, Bool, true, ◌&&◌, arith, inl, inr}
use Rattle.std.proofs.lemmas.Bool.{cases_lt, and_parts}

-- a test holds of the first n numbers
abbrev pub all_under : (ℕ → Bool) → ℕ → Bool
all_under test zero = true
all_under test (suc n) = all_under test n && test n

pub under : (test : ℕ → Bool) (n k : ℕ) → all_under test n ≡ true → k < n → test k ≡ true
under test zero k h lt = absurd (omega arith)
under test (suc n) k h lt =
    let both = and_parts (all_under test n) (test n) h in
    elim (cases_lt k n) [
      | inl less ↦ under test n k both.0 less
      | inr same ↦ let is : k ≡ n = omega arith in rw is both.1
    ]
