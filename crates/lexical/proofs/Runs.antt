-- The run of bytes of one kind at the front of a text.
use Rattle.std.proofs.Common.{◌≡◌, ℕ, ◌-◌, ◌<◌, ◌≤◌, eqb, Bool, true, false, not, List, [], ◌∷◌, length, take, get_or, Some, None, refl, arith, inl, inr, subst}
use Rattle.std.specs.List.{position_or_len, position, prefix_len, suffix_len, list_all, before_first}
use Rattle.std.specs.Str.Lines.{strip_carriage_return}
use Rattle.std.proofs.lemmas.Bool.{not-false, lt-ltb, cases_eq, ne_eqb, both_ways}
use Rattle.std.proofs.lemmas.List.{take_all, get_or-take, length-take}
use Rattle.std.proofs.lemmas.List.Elements.{All-from_get_or}
use Rattle.std.proofs.lemmas.List.Sums.{fails_before_first, position_or_len_is, suffix_len_is, list_all-from_AllPass}
use Rattle.lexical.specs.Blank.{is_blank, trim}
use Rattle.lexical.proofs.Splits.{position_none, position_some}

module _ (p : ℕ → Bool) (xs : List ℕ) where
  -- each byte before the first other one is of the kind
  pub run_passes : (i : ℕ) → position (λ b. not (p b)) xs ≡ Some i → (k : ℕ) → k < i → p (get_or xs k 0) ≡ true
  run_passes i e k lt =
      let is = position_some (λ b. not (p b)) xs i e in
      not-false _ (fails_before_first (λ b. not (p b)) xs k 0 (rw (← is.0) lt))

  pub all_pass : position (λ b. not (p b)) xs ≡ None → (k : ℕ) → k < length xs → p (get_or xs k 0) ≡ true
  all_pass e k lt = not-false _ (fails_before_first (λ b. not (p b)) xs k 0 (omega (arith, position_none (λ b. not (p b)) xs e, lt)))

  pub pass_together : ((k : ℕ) → k < length xs → p (get_or xs k 0) ≡ true) → list_all p xs ≡ true
  pass_together each = list_all-from_AllPass p xs (All-from_get_or (λ b. p b ≡ true) xs 0 each)

  -- where the first byte of a kind stands, and that none does
  pub first_at : (i : ℕ) → i < length xs → ((k : ℕ) → k < i → p (get_or xs k 0) ≡ false) → p (get_or xs i 0) ≡ true → position p xs ≡ Some i
  first_at i lt before at =
      let is : position_or_len p xs ≡ i = position_or_len_is p xs i 0 (omega arith) before (λ _. at) in
      rw (is, lt-ltb i (length xs) lt) refl

  module _ (none : (k : ℕ) → k < length xs → p (get_or xs k 0) ≡ false) where
    pub none_passes : position_or_len p xs ≡ length xs
    none_passes = position_or_len_is p xs (length xs) 0 (omega arith) none (λ lt. absurd (omega (arith, lt)))

    pub whole_before : before_first p xs ≡ xs
    whole_before = rw none_passes (take_all (length xs) xs (omega arith))

-- a byte of a kind is not one that isn't
pub other_byte : (p : ℕ → Bool) (n : ℕ) → p n ≡ false → (b : ℕ) → p b ≡ true → eqb b n ≡ false
other_byte p n fails b passes = elim (cases_eq b n) [ inl same ↦ absurd (both_ways (p n) fails (subst (λ (k : ℕ). p k ≡ true) same passes)) | inr other ↦ ne_eqb b n other ]

-- the bytes of a front are those of the text
pub in_front : (xs front : List ℕ) (i k : ℕ) → front ≡ take i xs → k < i → get_or front k 0 ≡ get_or xs k 0
in_front xs front i k e lt = rw e (get_or-take i xs k 0 lt)

pub front_length : (xs front : List ℕ) (i : ℕ) → front ≡ take i xs → length front ≤ i
front_length xs front i e = rw e (omega (arith, length-take i xs))

-- without a blank, nothing is trimmed
no_prefix : (xs : List ℕ) → ((k : ℕ) → k < length xs → is_blank (get_or xs k 0) ≡ false) → prefix_len is_blank xs ≡ 0
no_prefix [] none = refl
no_prefix (x ∷ xs) none = let first : is_blank x ≡ false = none 0 (omega arith) in rw first refl

pub trim_whole : (xs : List ℕ) → ((k : ℕ) → k < length xs → is_blank (get_or xs k 0) ≡ false) → trim xs ≡ xs
trim_whole xs none =
    let front : prefix_len is_blank xs ≡ 0 = no_prefix xs none in
    let back : suffix_len is_blank xs ≡ length xs - length xs =
    suffix_len_is is_blank xs (length xs) 0 (omega arith) (λ k le lt. absurd (omega (arith, le, lt))) (λ lt. none (length xs - 1) (omega (arith, lt))) in
    rw (front, back) (take_all (length xs - (length xs - length xs)) xs (omega arith))

-- without a carriage return, none is dropped
pub strip_whole : (xs : List ℕ) → ((k : ℕ) → k < length xs → eqb (get_or xs k 0) 13 ≡ false) → strip_carriage_return xs ≡ xs
strip_whole [] none = refl
strip_whole (x ∷ xs) none =
    let last : eqb (get_or (x ∷ xs) (length (x ∷ xs) - 1) 0) 13 ≡ false = none (length (x ∷ xs) - 1) (omega arith) in
    rw last refl
