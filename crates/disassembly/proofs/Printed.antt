-- Printable lines, one after the other, are the lines of their text.
use Rattle.std.proofs.Common.{◌≡◌, ℕ, zero, suc, ◌+◌, ◌<◌, Bool, true, false, not, ◌==◌, eqb, List, [], ◌∷◌, ◌++◌, length, get_or, take, map, refl, ap, ◌∙◌, arith, append_assoc, inl, inr}
use Rattle.std.specs.List.{list_all, slice_split, prefix_len}
use Rattle.std.specs.Str.Lines.{strip_carriage_return}
use Rattle.std.proofs.lemmas.Bool.{cases_Bool}
use Rattle.std.proofs.lemmas.Bool.Decides.{nat_tests}
use Rattle.lexical.specs.Line.{lines_of, before_comment}
use Rattle.lexical.specs.Name.{is_plain, is_plain_text}
use Rattle.lexical.proofs.Runs.{strip_whole}
use Rattle.isa.specs.Listing.{Lines}
use Rattle.isa.proofs.TextBytes.{Of, of_all, all_of, of_other, split_at, inner}
use Rattle.isa.proofs.TextRead.{in_code}
use Rattle.disassembly.specs.Writing.{unlines, printable, AllPrintable}

no_feed : (b : ℕ) → printable b ≡ true → (b == 10) ≡ false
no_feed b h = grind (arith, nat_tests)

no_return : (b : ℕ) → printable b ≡ true → (b == 13) ≡ false
no_return b h = grind (arith, nat_tests)

printable_plain : (b : ℕ) → printable b ≡ true → is_plain b ≡ true
printable_plain b h = grind (arith, nat_tests)

pub inner_printable : (b : ℕ) → inner b ≡ true → printable b ≡ true
inner_printable b h = grind (arith, nat_tests)

pub code_printable : (b : ℕ) → in_code b ≡ true → printable b ≡ true
code_printable b h = grind (arith, nat_tests)

-- ---- a line is plain before its comment

prefix_of : (p q : ℕ → Bool) (xs : List ℕ) → Of q xs → Of q (take (prefix_len p xs) xs)
prefix_of p q [] h = tt
prefix_of p q (x ∷ xs) h = elim (cases_Bool (p x)) [
  | inl hit ↦
      let next : 1 + prefix_len p xs ≡ suc (prefix_len p xs) = omega arith in
      rw (hit, next) (h.0, prefix_of p q xs h.1)
  | inr miss ↦ rw miss tt
]

pub line_plain : (l : List ℕ) → list_all printable l ≡ true → is_plain_text (before_comment l) ≡ true
line_plain l h =
    all_of is_plain (before_comment l)
    (of_other printable is_plain printable_plain (before_comment l) (prefix_of (λ b. not (b == 35)) printable l (of_all printable l h)))

-- ---- all lines

each_no_return : (l : List ℕ) → Of printable l → (k : ℕ) → k < length l → eqb (get_or l k 0) 13 ≡ false
each_no_return [] h k lt = absurd (omega arith)
each_no_return (x ∷ xs) h zero lt = no_return x h.0
each_no_return (x ∷ xs) h (suc k) lt = each_no_return xs h.1 k (omega arith)

pub line_whole : (l : List ℕ) → list_all printable l ≡ true → strip_carriage_return l ≡ l
line_whole l h = strip_whole l (each_no_return l (of_all printable l h))

pub split_lines : (ls : Lines) → AllPrintable ls → slice_split (λ b. b == 10) (unlines ls) ≡ ls ++ [] ∷ []
split_lines [] h = refl
split_lines (l ∷ ls) h =
    ap (slice_split (λ b. b == 10)) (append_assoc l (10 ∷ []) (unlines ls))
    ∙ split_at printable (λ b. b == 10) no_feed l 10 (unlines ls) (of_all printable l h.0) refl
    ∙ ap (λ (ps : Lines). l ∷ ps) (split_lines ls h.1)

strip_all : (ls : Lines) → AllPrintable ls → map strip_carriage_return (ls ++ [] ∷ []) ≡ ls ++ [] ∷ []
strip_all [] h = refl
strip_all (l ∷ ls) h = rw (line_whole l h.0) (ap (λ (ps : Lines). l ∷ ps) (strip_all ls h.1))

pub lines_are : (ls : Lines) → AllPrintable ls → lines_of (unlines ls) ≡ ls ++ [] ∷ []
lines_are ls h = ap (map strip_carriage_return) (split_lines ls h) ∙ strip_all ls h
