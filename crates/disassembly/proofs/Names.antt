-- Comments with the names of functions.
use Rattle.std.proofs.Common.{◌≡◌, ℕ, zero, suc, ◌+◌, ◌≤◌, true, not, nat_le, List, [], ◌∷◌, ◌++◌, length, take, drop, Option, None, Some, Ok, inl, inr}
use Rattle.std.proofs.Common.{append_assoc, arith, length-take, refl, sym, take_all, ap, ◌∙◌}
use Rattle.std.specs.Prelude.{codes, Result, Err, OnOk, position}
use Rattle.std.specs.List.{list_all, position_or_len}
use Rattle.std.proofs.lemmas.Bool.{and_from, and_parts, cases_Bool, cases_lt, le-leb, leb-true, lt-ltb, le-ltb}
use Rattle.std.proofs.lemmas.List.{append-nil, length-append}
use Rattle.elf.specs.Symbols.{is_graphic, cut_at, first_at_most, name_window, printable_at}
use Rattle.lexical.specs.Label.{labels_of, statement_of}
use Rattle.isa.specs.Statement.{statement}
use Rattle.isa.specs.Listing.{Lines}
use Rattle.disassembly.proofs.Pushed.{unlines_push}
use Rattle.disassembly.specs.Writing.{as_line, unlines, printable, IsBlankLine, AllQuiet, IsQuieter, gap_lines, comment_line}

-- ---- a name in an executable

graphic_printable : (b : ℕ) → is_graphic b ≡ true → printable b ≡ true
graphic_printable b h =
    let both = and_parts (nat_le 33 b) (nat_le b 126) h in
    let low = leb-true 33 b both.0 in
    and_from (nat_le 32 b) (nat_le b 126) (le-leb 32 b (omega (arith, low))) both.1

graphic_front : (xs : List ℕ) → list_all printable (take (position_or_len (λ b. not (is_graphic b)) xs) xs) ≡ true
graphic_front [] = refl
graphic_front (x ∷ xs) = elim (cases_Bool (is_graphic x)) [
  | inl graphic ↦ (
      let n = position_or_len (λ b. not (is_graphic b)) xs in
      let place : 1 + n ≡ suc n = omega arith in
      rw (graphic, place) (and_from (printable x) (list_all printable (take n xs)) (graphic_printable x graphic) (graphic_front xs)))
  | inr other ↦ rw other refl
]

graphic_up_to : (xs : List ℕ) → list_all printable (cut_at (position (λ b. not (is_graphic b)) xs) xs) ≡ true
graphic_up_to xs =
    let n = position_or_len (λ b. not (is_graphic b)) xs in
    elim (cases_lt n (length xs)) [
      | inl lt ↦ rw (lt-ltb _ _ lt) (graphic_front xs)
      | inr le ↦ rw (le-ltb _ _ le) (ap (list_all printable) (sym (take_all n xs le)) ∙ graphic_front xs)
    ]

up_to_short : (end : Option ℕ) (xs : List ℕ) → length (cut_at end xs) ≤ length xs
up_to_short None xs = omega arith
up_to_short (Some n) xs = omega (arith, length-take n xs)

first_short : (most : ℕ) (xs : List ℕ) → length (first_at_most most xs) ≤ most
first_short most xs = elim (cases_lt (length xs) most) [
  | inl lt ↦ rw (lt-ltb _ _ lt) (omega (arith, lt))
  | inr le ↦ rw (le-ltb _ _ le) (omega (arith, length-take most xs))
]

window_short : (file : List ℕ) (at : ℕ) → length (name_window file at) ≤ 60
window_short file at = elim (cases_lt (length file) at) [
  | inl lt ↦ rw (lt-ltb _ _ lt) (omega arith)
  | inr le ↦ rw (le-ltb _ _ le) (first_short 60 (drop at file))
]

pub name_short : (file name : List ℕ) (at : ℕ) → name ≡ printable_at file at → length name ≤ 60
name_short file name at is =
    let window = name_window file at in
    omega (arith, ap length is, up_to_short (position (λ b. not (is_graphic b)) window) window, window_short file at)

pub name_plain : (file name : List ℕ) (at : ℕ) → name ≡ printable_at file at → list_all printable name ≡ true
name_plain file name at is = ap (list_all printable) is ∙ graphic_up_to (name_window file at)

-- ---- the comment

empty_quiet : IsBlankLine []
unfolding labels_of statement_of statement
empty_quiet = record { bytes = refl; labels_are = refl; read_is = refl }

comment_quiet : (text : List ℕ) → list_all printable text ≡ true → IsBlankLine (comment_line text)
unfolding labels_of statement_of statement
comment_quiet text h = record { bytes = h; labels_are = refl; read_is = refl }

gap_quiet : (k : ℕ) → AllQuiet (gap_lines k)
gap_quiet zero = tt
gap_quiet (suc k) = (empty_quiet, tt)

gap_size : (k : ℕ) → length (unlines (gap_lines k)) ≤ 1
gap_size zero = omega arith
gap_size (suc k) = omega arith

quiet_push : (ls : Lines) (l : List ℕ) → AllQuiet ls → IsBlankLine l → AllQuiet (ls ++ l ∷ [])
quiet_push [] l h q = (q, tt)
quiet_push (b ∷ ls) l h q = (h.0, quiet_push ls l h.1 q)

pub quieter_name : (old gap new text : List ℕ) (k : ℕ) → list_all printable text ≡ true → length text ≤ 100 → gap ≡ old ++ unlines (gap_lines k)
    → new ≡ gap ++ as_line (comment_line text) → IsQuieter 110 old new
quieter_name old gap new text k plain short before grown =
    let whole : new ≡ old ++ unlines (gap_lines k ++ comment_line text ∷ []) =
    grown ∙ ap (λ (t : List ℕ). t ++ as_line (comment_line text)) before ∙ append_assoc old (unlines (gap_lines k)) (as_line (comment_line text))
    ∙ ap (λ (t : List ℕ). old ++ t) (sym (unlines_push (gap_lines k) (comment_line text))) in
    let size : length (unlines (gap_lines k ++ comment_line text ∷ [])) ≡ length (unlines (gap_lines k)) + length (as_line (comment_line text)) =
    ap length (unlines_push (gap_lines k) (comment_line text)) ∙ length-append (unlines (gap_lines k)) (as_line (comment_line text)) in
    let line : length (as_line (comment_line text)) ≡ length text + 3 = omega (arith, length-append text (10 ∷ [])) in
    let first = gap_size k in
    record {
      lines = gap_lines k ++ comment_line text ∷ [];
      quiet = quiet_push (gap_lines k) (comment_line text) (gap_quiet k) (comment_quiet text plain);
      grown = whole;
      short = omega (arith, size, line, first);
    }

pub quieter_none : (old new : List ℕ) → new ≡ old → IsQuieter 110 old new
quieter_none old new same = record { lines = []; quiet = tt; grown = same ∙ sym (append-nil old); short = omega arith }

-- what stands before the lines of data
pub data_head : AllQuiet ([] ∷ codes "# data" ∷ [])
data_head = (empty_quiet, (comment_quiet (codes "data") refl, tt))

-- what follows where a call went well
pub on_ok : {A E : Type 0} (r : Result A E) (P Q : Type 0) → (P → Q) → OnOk r P → OnOk r Q
on_ok (Ok x) P Q f h = f h
on_ok (Err e) P Q f h = h
