-- A cut at a byte.
use Rattle.std.proofs.Common.{◌≡◌, ℕ, suc, ◌+◌, ◌≤◌, ◌<◌, eqb, Bool, List, [], ◌∷◌, length, take, drop, Option, Some, None, refl, ap, ◌∙◌, arith, inl, inr}
use Rattle.std.specs.Borrow.{Bor}
use Rattle.lexical.specs.Cut.{after_byte}
use Rattle.std.specs.Option.{option_map, IfSome}
use Rattle.std.proofs.lemmas.Bool.{cases_lt, cases_Bool, lt-ltb, le-ltb}
use Rattle.std.proofs.lemmas.List.Splits.{slice_split_first}
use Rattle.std.specs.List.{slice_split, onto_first, position_or_len, position, after_first}
use Rattle.std.proofs.lemmas.List.{drop-drop}

module _ {X : Type 0} (p : X → Bool) where
  -- where nothing passes
  pub split_whole : (xs : List X) → length xs ≤ position_or_len p xs → slice_split p xs ≡ xs ∷ []
  split_whole [] h = refl
  split_whole (x ∷ xs) h = elim (cases_Bool (p x)) [
    | inl passes ↦ let bad : length (x ∷ xs) ≤ 0 = rw passes at h in absurd (omega arith)
    | inr fails ↦ let more : length (x ∷ xs) ≤ 1 + position_or_len p xs = rw fails at h in rw fails (ap (onto_first x) (split_whole xs (omega arith)))
  ]

  pub position_none : (xs : List X) → position p xs ≡ None → length xs ≤ position_or_len p xs
  position_none xs e = elim (cases_lt (position_or_len p xs) (length xs)) [
    | inl lt ↦ let bad : Some (position_or_len p xs) ≡ None = rw (lt-ltb _ _ lt) at e in absurd cc
    | inr le ↦ le
  ]

  pub position_some : (xs : List X) (i : ℕ) → position p xs ≡ Some i → (i ≡ position_or_len p xs) × (i < length xs)
  position_some xs i e = elim (cases_lt (position_or_len p xs) (length xs)) [
    | inl lt ↦ let is : Some (position_or_len p xs) ≡ Some i = rw (lt-ltb _ _ lt) at e in let same : i ≡ position_or_len p xs = cc in (same, rw same lt)
    | inr le ↦ let bad : None ≡ Some i = rw (le-ltb _ _ le) at e in absurd cc
  ]

  pub split_none : (xs : List X) → position p xs ≡ None → slice_split p xs ≡ xs ∷ []
  split_none xs e = split_whole xs (position_none xs e)

  pub split_some : (xs front rest after : List X) (i : ℕ) → position p xs ≡ Some i → front ≡ take i xs → rest ≡ drop i xs → after ≡ drop 1 rest → slice_split p xs ≡ front ∷ slice_split p after
  split_some [] front rest after i e f r a = let is = position_some [] i e in absurd (omega arith)
  split_some (x ∷ xs) front rest after i e f r a =
      let is = position_some (x ∷ xs) i e in
      let tail : after ≡ after_first p (x ∷ xs) = a ∙ ap (drop 1) r ∙ drop-drop 1 i (x ∷ xs) ∙ ap (λ (n : ℕ). drop n (x ∷ xs)) (omega arith) in
      rw (tail, f ∙ ap (λ (n : ℕ). take n (x ∷ xs)) is.0) (slice_split_first p (x ∷ xs) x (rw (← is.0) is.1))

-- one more than the length of what is left, if anything is
abbrev pub size_left : Option (List ℕ) → ℕ
size_left None = 0
size_left (Some text) = length text + 1

pub size_step : (rest : Option (Bor (List ℕ))) (n : ℕ) → IfSome rest (λ r. length r.now < n) → size_left (option_map (λ r. r.now) rest) ≤ n
size_step None n h = omega arith
size_step (Some r) n h = omega arith

-- what stands behind a byte that is not there, and behind the first one that is
pub after_none : (at : ℕ) (xs : List ℕ) → position (λ b. eqb b at) xs ≡ None → None ≡ after_byte at xs
after_none at xs e = after_whole at xs (position_none (λ b. eqb b at) xs e)
  where
    after_whole : (at : ℕ) (xs : List ℕ) → length xs ≤ position_or_len (λ b. eqb b at) xs → None ≡ after_byte at xs
    after_whole at [] h = refl
    after_whole at (x ∷ xs) h = elim (cases_Bool (eqb x at)) [
      | inl passes ↦ let bad : length (x ∷ xs) ≤ 0 = rw passes at h in absurd (omega arith)
      | inr fails ↦ let more : length (x ∷ xs) ≤ 1 + position_or_len (λ b. eqb b at) xs = rw fails at h in rw fails (after_whole at xs (omega arith))
    ]

pub after_at : (at : ℕ) (xs : List ℕ) → position_or_len (λ b. eqb b at) xs < length xs → Some (after_first (λ b. eqb b at) xs) ≡ after_byte at xs
after_at at [] h = absurd (omega arith)
after_at at (x ∷ xs) h = elim (cases_Bool (eqb x at)) [
  | inl passes ↦ rw passes refl
  | inr fails ↦
      let n = position_or_len (λ b. eqb b at) xs in
      let less : 1 + n < length (x ∷ xs) = rw fails at h in
      let place : 1 + n + 1 ≡ suc (n + 1) = omega arith in
      rw fails (ap (λ (k : ℕ). Some (drop k (x ∷ xs))) place ∙ after_at at xs (omega arith))
]

pub after_some : (at : ℕ) (xs rest after' : List ℕ) (i : ℕ) → position (λ b. eqb b at) xs ≡ Some i → rest ≡ drop i xs → after' ≡ drop 1 rest → Some after' ≡ after_byte at xs
after_some at xs rest after' i e r a =
    let is = position_some (λ b. eqb b at) xs i e in
    let tail : after' ≡ after_first (λ b. eqb b at) xs = a ∙ ap (drop 1) r ∙ drop-drop 1 i xs ∙ ap (λ (n : ℕ). drop n xs) (omega arith) in
    ap (λ (t : List ℕ). Some t) tail ∙ after_at at xs (rw (← is.0) is.1)
