-- Numbers, capped at 2^32.
use Rattle.std.proofs.Common.{◌≡◌, ℕ, ◌+◌, ◌*◌, ◌≤◌, ◌<◌, List, [], ◌∷◌, length, drop, get_or, Option, Some, None, refl, ap, ◌∙◌, arith, inl, inr}
use Rattle.std.specs.Option.{option_map}
use Rattle.std.specs.Str.Parse.{digits_value_after}
use Rattle.std.specs.Char.{digit_value}
use Rattle.std.proofs.lemmas.Bool.{cases_lt}
use Rattle.std.proofs.lemmas.Bool.Decides.{nat_tests}
use Rattle.std.proofs.Math.Nat.{mul-le-mul_left}
use Rattle.std.proofs.lemmas.List.{drop_more}
use Rattle.lexical.specs.Number.{capped, at_most}

pub capped_step : (radix v w d : ℕ) → 1 ≤ radix → capped v ≡ capped w → capped (v * radix + d) ≡ capped (w * radix + d)
capped_step radix v w d r e = elim (cases_lt v 4294967296) [
  | inl lt ↦ let same : v ≡ w = omega arith in rw same refl
  | inr le ↦
      let a : v * 1 ≤ v * radix = mul-le-mul_left v r in
      let b : w * 1 ≤ w * radix = mul-le-mul_left w r in
      omega arith
]

pub capped_after : (radix : ℕ) → 1 ≤ radix → (ds : List ℕ) (v w : ℕ) → capped v ≡ capped w → capped (digits_value_after radix v ds) ≡ capped (digits_value_after radix w ds)
capped_after radix r [] v w e = e
capped_after radix r (c ∷ ds) v w e = capped_after radix r ds _ _ (capped_step radix v w (digit_value c) r e)

pub at_most_capped : (most : ℕ) (found : Option ℕ) → most < 4294967296 → at_most most (option_map capped found) ≡ at_most most found
at_most_capped most None h = refl
at_most_capped most (Some m) h = elim (cases_lt 4294967296 m) [
  | inl lt ↦ grind (arith, nat_tests)
  | inr le ↦ let same : capped m ≡ m = omega arith in rw same refl
]

-- one more digit
pub capped_more : (radix v n d i : ℕ) (ds : List ℕ) (all : ℕ) → 1 ≤ radix → i < length ds → d ≡ digit_value (get_or ds i 0) → n ≡ capped (v * radix + d)
    → capped (digits_value_after radix v (drop i ds)) ≡ all → capped (digits_value_after radix n (drop (i + 1) ds)) ≡ all
capped_more radix v n d i ds all r lt is_digit is_next so_far =
    let cut : drop i ds ≡ get_or ds i 0 ∷ drop (i + 1) ds = drop_more ds i 0 lt in
    let step : capped n ≡ capped (v * radix + d) = omega arith in
    let whole : capped (digits_value_after radix (v * radix + digit_value (get_or ds i 0)) (drop (i + 1) ds)) ≡ all = rw cut at so_far in
    capped_after radix r (drop (i + 1) ds) _ _ (step ∙ ap (λ (k : ℕ). capped (v * radix + k)) is_digit) ∙ whole
