-- The labels at the front of a line.
use Rattle.std.proofs.Common.{◌≡◌, ℕ, ◌<◌, Bool, true, false, cond, not, eqb, List, [], ◌∷◌, Some, length, take, drop, get_or, refl, sym, ap, ◌∙◌, arith}
use Rattle.std.specs.List.{slice_split, onto_first, join_with_byte, position}
use Rattle.std.specs.Char.{is_ascii_digit}
use Rattle.std.proofs.lemmas.Bool.{and_from, not_from_false, ne_eqb}
use Rattle.std.proofs.lemmas.List.{length-take-le}
use Rattle.std.proofs.lemmas.List.Splits.{join_with_byte-slice_split}
use Rattle.lexical.specs.Blank.{is_blank, trim}
use Rattle.lexical.specs.Name.{goes_on_name, is_name}
use Rattle.lexical.specs.Label.{labels_of, statement_of}
use Rattle.lexical.proofs.Splits.{position_some, split_some}
use Rattle.lexical.proofs.Runs.{run_passes, pass_together, first_at, other_byte, in_front, trim_whole}

-- a cut has one part or more
pub split_shape : (p : ℕ → Bool) (xs : List ℕ) → (q : List ℕ) × (qs : List (List ℕ)) × (slice_split p xs ≡ q ∷ qs)
split_shape p [] = ([], [], refl)
split_shape p (x ∷ xs) = shape x (p x) (slice_split p xs)
  where
    shape : (x : ℕ) (b : Bool) (parts : List (List ℕ)) → (q : List ℕ) × (qs : List (List ℕ)) × (cond b ([] ∷ parts) (onto_first x parts) ≡ q ∷ qs)
    shape x true parts = ([], parts, refl)
    shape x false [] = (x ∷ [], [], refl)
    shape x false (part ∷ parts) = (x ∷ part, parts, refl)

pub labels_next : (code front after : List ℕ) → slice_split (λ b. eqb b 58) code ≡ front ∷ slice_split (λ b. eqb b 58) after → is_name (trim front) ≡ true
    → (labels_of code ≡ trim front ∷ labels_of after) × (statement_of code ≡ statement_of after)
unfolding labels_of statement_of
labels_next code front after e name =
    let s = split_shape (λ b. eqb b 58) after in
    (rw (e, s.2, name) refl, rw (e, s.2, name) refl)

pub labels_none : (code front after : List ℕ) → slice_split (λ b. eqb b 58) code ≡ front ∷ slice_split (λ b. eqb b 58) after → is_name (trim front) ≡ false
    → (labels_of code ≡ []) × (statement_of code ≡ trim code)
unfolding labels_of statement_of
labels_none code front after e name =
    let s = split_shape (λ b. eqb b 58) after in
    let whole : join_with_byte 58 (slice_split (λ b. eqb b 58) code) ≡ code = join_with_byte-slice_split 58 code in
    let parts : join_with_byte 58 (front ∷ s.0 ∷ s.1) ≡ code = ap (join_with_byte 58) (sym (e ∙ ap (λ (ps : List (List ℕ)). front ∷ ps) s.2)) ∙ whole in
    (rw (e, s.2, name) refl, rw (e, s.2, name) (ap trim parts))

pub labels_whole : (code front : List ℕ) → slice_split (λ b. eqb b 58) code ≡ front ∷ [] → front ≡ code → (labels_of code ≡ []) × (statement_of code ≡ trim code)
unfolding labels_of statement_of
labels_whole code front e is = (rw e refl, rw (e, is) refl)

no_blank : (b : ℕ) → goes_on_name b ≡ true → is_blank b ≡ false
no_blank b h = rw (other_byte goes_on_name 32 refl b h, other_byte goes_on_name 9 refl b h) refl

-- a name that a colon ends at once
pub label_first : (code front rest behind : List ℕ) (i : ℕ) → position (λ b. not (goes_on_name b)) code ≡ Some i → 0 < i → eqb (get_or code i 0) 58 ≡ true
    → is_ascii_digit (get_or code 0 0) ≡ false → front ≡ take i code → rest ≡ drop i code → behind ≡ drop 1 rest
    → (labels_of code ≡ front ∷ labels_of behind) × (statement_of code ≡ statement_of behind)
label_first code front rest behind i e some colon digit f r b =
    let is = position_some (λ b. not (goes_on_name b)) code i e in
    let passes : (k : ℕ) → k < i → goes_on_name (get_or code k 0) ≡ true = run_passes goes_on_name code i e in
    let size : length front ≡ i = rw f (length-take-le i code (omega (arith, is.1))) in
    let each : (k : ℕ) → k < length front → goes_on_name (get_or front k 0) ≡ true =
    λ k lt. rw (in_front code front i k f (omega (arith, size, lt))) (passes k (omega (arith, size, lt))) in
    let first : is_ascii_digit (get_or front 0 0) ≡ false = rw (in_front code front i 0 f some) digit in
    let name : is_name front ≡ true =
    and_from _ _ (not_from_false _ (ne_eqb (length front) 0 (λ none. omega (arith, size, some, none))))
    (and_from _ _ (not_from_false _ first) (pass_together goes_on_name front each)) in
    let plain : trim front ≡ front = trim_whole front (λ k lt. no_blank (get_or front k 0) (each k lt)) in
    let split = split_some (λ b. eqb b 58) code front rest behind i
    (first_at (λ b. eqb b 58) code i is.1 (λ k lt. other_byte goes_on_name 58 refl (get_or code k 0) (passes k lt)) colon) f r b in
    let both = labels_next code front behind split (rw plain name) in
    (both.0 ∙ rw plain refl, both.1)
