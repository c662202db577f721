-- Lines that are counted one by one.
use Rattle.std.proofs.Common.{◌≡◌, ◌+◌, ◌≤◌, ◌<◌, ℕ, zero, suc, List, [], ◌∷◌, length, drop, Some, slice_get, sym, arith}
use Rattle.checker.specs.Parts.{numbered_line}
use Rattle.checker.proofs.Lengths.{total, lines_fit}
use Rattle.lexical.specs.Line.{lines_of}

-- line n stands behind n others, and the rest behind it
pub next_get : (ls left : List (List ℕ)) (n : ℕ) (l : List ℕ) → drop n ls ≡ l ∷ left → slice_get ls n ≡ Some l
next_get [] left zero l is = absurd cc
next_get [] left (suc n) l is = absurd cc
next_get (x ∷ xs) left zero l is = cc
next_get (x ∷ xs) left (suc n) l is = next_get xs left n l is

next_drop : (ls left : List (List ℕ)) (n : ℕ) (l : List ℕ) → drop n ls ≡ l ∷ left → drop (suc n) ls ≡ left
next_drop [] left zero l is = absurd cc
next_drop [] left (suc n) l is = absurd cc
next_drop (x ∷ xs) left zero l is = cc
next_drop (x ∷ xs) left (suc n) l is = next_drop xs left n l is

next_few : (ls left : List (List ℕ)) (n : ℕ) (l : List ℕ) → drop n ls ≡ l ∷ left → n < length ls
next_few [] left zero l is = absurd cc
next_few [] left (suc n) l is = absurd cc
next_few (x ∷ xs) left zero l is = omega arith
next_few (x ∷ xs) left (suc n) l is = omega (arith, next_few xs left n l is)

pub next_is : (ls left : List (List ℕ)) (n : ℕ) (l : List ℕ) → drop n ls ≡ l ∷ left → numbered_line (n + 1) ls ≡ Some l
next_is ls left n l is =
    let next : n + 1 ≡ suc n = omega arith in
    rw next (next_get ls left n l is)

pub next_rest : (ls left : List (List ℕ)) (n : ℕ) (l : List ℕ) → drop n ls ≡ l ∷ left → left ≡ drop (n + 1) ls
next_rest ls left n l is =
    let next : n + 1 ≡ suc n = omega arith in
    rw next (sym (next_drop ls left n l is))

count_total : (ls : List (List ℕ)) → length ls ≤ total ls
count_total [] = omega arith
count_total (l ∷ ls) = omega (arith, count_total ls)

-- there are no more lines than bytes, and one
pub few_lines : (bytes : List ℕ) (left : List (List ℕ)) (n : ℕ) (l : List ℕ) → drop n (lines_of bytes) ≡ l ∷ left → n < length bytes + 1
few_lines bytes left n l is = omega (arith, next_few (lines_of bytes) left n l is, count_total (lines_of bytes), lines_fit bytes)
