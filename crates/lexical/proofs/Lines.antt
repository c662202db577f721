-- A first line that is all code.
use Rattle.std.proofs.Common.{◌≡◌, ℕ, ◌<◌, Bool, true, false, ◌&&◌, ◌||◌, not, eqb, List, [], ◌∷◌, length, take, drop, get_or, Some, None, refl, sym, arith, inl, inr}
use Rattle.std.proofs.lemmas.Bool.{cases_Bool}
use Rattle.std.specs.Prelude.{nat_le}
use Rattle.std.specs.List.{slice_split, position}
use Rattle.std.specs.Str.Lines.{strip_carriage_return}
use Rattle.lexical.specs.Name.{is_code_byte, is_plain, is_plain_text}
use Rattle.lexical.specs.Line.{before_comment, plain_code, IsFirstCode}
use Rattle.lexical.proofs.Splits.{position_some, split_whole, split_some}
use Rattle.lexical.proofs.Runs.{run_passes, all_pass, pass_together, first_at, none_passes, whole_before, other_byte, in_front, front_length, strip_whole}

plain_too : (x y z w : Bool) → (x || (y && (z && w))) ≡ true → (x || (y && z)) ≡ true
plain_too true y z w h = refl
plain_too false false z w h = cc
plain_too false true false w h = cc
plain_too false true true w h = refl

code_is_plain : (b : ℕ) → is_code_byte b ≡ true → is_plain b ≡ true
code_is_plain b h = plain_too (eqb b 9) (nat_le 0x20 b) (nat_le b 0x7e) (not (eqb b 35)) h

module _ (line : List ℕ) (each : (k : ℕ) → k < length line → is_code_byte (get_or line k 0) ≡ true) where
  all_code : plain_code line ≡ Some line
  all_code =
      let whole : before_comment line ≡ line = whole_before (λ b. eqb b 35) line (λ k lt. other_byte is_code_byte 35 refl _ (each k lt)) in
      let plain : is_plain_text line ≡ true = pass_together is_plain line (λ k lt. code_is_plain (get_or line k 0) (each k lt)) in
      rw (whole, plain) refl

  no_return : strip_carriage_return line ≡ line
  no_return = strip_whole line (λ k lt. other_byte is_code_byte 13 refl _ (each k lt))

pub last_code : (text : List ℕ) → position (λ b. not (is_code_byte b)) text ≡ None → IsFirstCode text (Some text) None
last_code text e =
    let each = all_pass is_code_byte text e in
    let split : slice_split (λ b. eqb b 10) text ≡ text ∷ [] =
    split_whole (λ b. eqb b 10) text (omega (arith, none_passes (λ b. eqb b 10) text (λ k lt. other_byte is_code_byte 10 refl _ (each k lt)))) in
    record { line = text; lines = rw (split, no_return text each) refl; code_is = sym (all_code text each) }

pub code_first : (text front rest after : List ℕ) (i : ℕ) → position (λ b. not (is_code_byte b)) text ≡ Some i → eqb (get_or text i 0) 10 ≡ true
    → front ≡ take i text → rest ≡ drop i text → after ≡ drop 1 rest → IsFirstCode text (Some front) (Some after)
code_first text front rest after i e feed f r a =
    let passes : (k : ℕ) → k < i → is_code_byte (get_or text k 0) ≡ true = run_passes is_code_byte text i e in
    let size = front_length text front i f in
    let each : (k : ℕ) → k < length front → is_code_byte (get_or front k 0) ≡ true =
    λ k lt. rw (in_front text front i k f (omega (arith, size, lt))) (passes k (omega (arith, size, lt))) in
    let split = split_some (λ b. eqb b 10) text front rest after i
    (first_at (λ b. eqb b 10) text i (position_some (λ b. not (is_code_byte b)) text i e).1 (λ k lt. other_byte is_code_byte 10 refl _ (passes k lt)) feed) f r a in
    record { line = front; lines = rw (split, no_return front each) refl; code_is = sym (all_code front each) }

-- what the code of a line says of it
pub code_given : (line text : List ℕ) → plain_code line ≡ Some text → (text ≡ before_comment line) × (is_plain_text text ≡ true)
code_given line text e = elim (cases_Bool (is_plain_text (before_comment line))) [
  | inl plain ↦
      let some : Some (before_comment line) ≡ Some text = rw plain at e in
      let same : text ≡ before_comment line = cc in
      (same, rw same plain)
  | inr other ↦ let bad : None ≡ Some text = rw other at e in absurd cc
]

pub code_none : (line : List ℕ) → plain_code line ≡ None → is_plain_text (before_comment line) ≡ false
code_none line e = elim (cases_Bool (is_plain_text (before_comment line))) [
  | inl plain ↦ let bad : Some (before_comment line) ≡ None = rw plain at e in absurd cc
  | inr other ↦ other
]
