-- The lines of a text have no more bytes than the text.
use Rattle.std.proofs.Common.{◌≡◌, ◌+◌, ◌-◌, ◌≤◌, ℕ, Bool, eqb, List, [], ◌∷◌, length, map, slice_index, arith, inl, inr}
use Rattle.std.proofs.lemmas.Bool.{cases_Bool}
use Rattle.std.proofs.lemmas.List.{length-take}
use Rattle.std.specs.List.{slice_split, onto_first, position_or_len}
use Rattle.std.specs.Str.Lines.{strip_carriage_return}
use Rattle.lexical.specs.Line.{lines_of, before_comment}

-- the bytes of lines, and one more for each
abbrev pub total : List (List ℕ) → ℕ
total [] = 0
total (l ∷ ls) = length l + 1 + total ls

onto : (x : ℕ) (parts : List (List ℕ)) → 1 ≤ total parts → total (onto_first x parts) ≡ 1 + total parts
onto x [] some = absurd (omega (arith, some))
onto x (p ∷ ps) some = omega arith

split : (p : ℕ → Bool) (xs : List ℕ) → total (slice_split p xs) ≡ length xs + 1
split p [] = omega arith
split p (x ∷ xs) = elim (cases_Bool (p x)) [
  | inl passes ↦ rw passes (omega (arith, split p xs))
  | inr fails ↦ rw fails (omega (arith, onto x (slice_split p xs) (omega (arith, split p xs)), split p xs))
]

stripped : (line : List ℕ) → length (strip_carriage_return line) ≤ length line
stripped line = elim (cases_Bool (eqb (slice_index line (length line - 1)) 13)) [
  | inl is ↦ rw is (omega (arith, length-take (length line - 1) line))
  | inr is ↦ rw is (omega arith)
]

all_stripped : (ls : List (List ℕ)) → total (map strip_carriage_return ls) ≤ total ls
all_stripped [] = omega arith
all_stripped (l ∷ ls) = omega (arith, stripped l, all_stripped ls)

pub lines_fit : (bytes : List ℕ) → total (lines_of bytes) ≤ length bytes + 1
lines_fit bytes = omega (arith, all_stripped (slice_split (λ b. eqb b 10) bytes), split (λ b. eqb b 10) bytes)

pub code_fits : (line : List ℕ) → length (before_comment line) ≤ length line
code_fits line = omega (arith, length-take (position_or_len (λ b. eqb b 35) line) line)

-- the labels of a line are counted in, where the bytes that are left bound the count
pub counted_in : (ls lines : List (List ℕ)) (l : List ℕ) (n k most : ℕ) → lines ≡ l ∷ ls → k ≤ length (before_comment l)
    → n + total lines ≤ most → n + k + total ls ≤ most
counted_in ls lines l n k most is small fits =
    let all : n + total (l ∷ ls) ≤ most = rw is at fits in
    omega (arith, all, small, code_fits l)
