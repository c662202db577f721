-- The numbers that a seat may give away, and those of two seats that it is cut into.
use Rattle.std.proofs.Common.{◌≡◌, ◌≢◌, ℕ, suc, ◌+◌, ◌*◌, ◌/◌, ◌<◌, ◌≤◌, sym, ap, ◌∙◌, arith}
use Rattle.std.proofs.Math.Nat.{mul-div_cancel}
use Rattle.ruu_words.specs.declared.rule.SpareNumbers.{SpareNumbers}
use Rattle.ruu_words.specs.Views.{IsSpare, half, other_half, without_first}

pub no_spare : 1 ≤ 0 → ⊥
no_spare e = omega arith

module _ (spare : SpareNumbers) (n : ℕ) where
  -- all but the first
  later_is : (f e k : ℕ) → f + e + k * e ≡ f + suc k * e
  later_is f e k = grind arith

  pub later_of : IsSpare (without_first spare) n → IsSpare spare n
  later_of i = record { some = i.some; k = suc i.k; is = i.is ∙ later_is spare.first spare.every i.k }

  above_first : (f e k : ℕ) → 1 ≤ e → f < f + e + k * e
  above_first f e k h = let rest : 0 ≤ k * e = omega arith in omega arith

  pub not_first : IsSpare (without_first spare) n → n ≢ spare.first
  not_first i e = let is = i.is in let far = above_first spare.first spare.every i.k i.some in omega arith

  -- every second
  half_is : (f e k : ℕ) → f + e + k * (2 * e) ≡ f + (2 * k + 1) * e
  half_is f e k = grind arith

  pub half_of : IsSpare (half spare) n → IsSpare spare n
  half_of i = let some : 1 ≤ 2 * spare.every = i.some in record { some = omega arith; k = 2 * i.k + 1; is = i.is ∙ half_is spare.first spare.every i.k }

  other_half_is : (f e k : ℕ) → f + 2 * e + k * (2 * e) ≡ f + (2 * k + 2) * e
  other_half_is f e k = grind arith

  pub other_half_of : IsSpare (other_half spare) n → IsSpare spare n
  other_half_of i = let some : 1 ≤ 2 * spare.every = i.some in record { some = omega arith; k = 2 * i.k + 2; is = i.is ∙ other_half_is spare.first spare.every i.k }

  pub half_not_first : IsSpare (half spare) n → n ≢ spare.first
  half_not_first i e =
      let is = i.is in
      let some : 1 ≤ 2 * spare.every = i.some in
      let far = above_first spare.first spare.every (2 * i.k) (omega arith) in
      let same : spare.first + spare.every + 2 * i.k * spare.every ≡ spare.first + spare.every + i.k * (2 * spare.every) = grind arith in
      omega arith

  -- an odd number of steps is not an even one
  parity : (f e k j : ℕ) → 1 ≤ e → f + (2 * k + 1) * e ≡ f + (2 * j + 2) * e → ⊥
  parity f e k j h same =
      let product : (2 * k + 1) * e ≡ (2 * j + 2) * e = omega arith in
      let steps : 2 * k + 1 ≡ 2 * j + 2 = sym (mul-div_cancel (2 * k + 1) h) ∙ (ap (λ z. z / e) product ∙ mul-div_cancel (2 * j + 2) h) in
      omega arith

  pub half_apart : IsSpare (half spare) n → IsSpare (other_half spare) n → ⊥
  half_apart i j =
      let some : 1 ≤ 2 * spare.every = i.some in
      parity spare.first spare.every i.k j.k (omega arith)
      (sym (half_is spare.first spare.every i.k) ∙ (sym i.is ∙ (j.is ∙ other_half_is spare.first spare.every j.k)))

  -- A seat's own number is below them
  pub own_number : (by : ℕ) → (1 ≤ spare.every → by < spare.first) → IsSpare spare n → by ≢ n
  own_number by above i e = let h = above i.some in let is = i.is in let far : 0 ≤ i.k * spare.every = omega arith in omega arith

  pub positive : (by : ℕ) → (1 ≤ spare.every → by < spare.first) → IsSpare spare n → n ≢ 0
  positive by above i e = let h = above i.some in let is = i.is in let far : 0 ≤ i.k * spare.every = omega arith in omega arith
