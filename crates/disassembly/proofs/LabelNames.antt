-- The labels of two addresses differ, and each label that is used is in the table.
use Rattle.std.proofs.Common.{◌≡◌, ℕ, zero, suc, ◌%◌, ◌/◌, ◌^◌, ◌≤◌, ◌<◌, Bool, true, false, ◌==◌, List, [], ◌∷◌, ◌++◌, cond, map, get_or, is_some, Some, None, refl, ap, ◌∙◌, sym, arith, inl, inr}
use Rattle.std.specs.Prelude.{slice_index_or}
use Rattle.std.specs.Char.{digit_value}
use Rattle.std.specs.Map.{lookup}
use Rattle.std.specs.Str.{bytes_eq}
use Rattle.std.proofs.lemmas.Bool.{cases_eq, cases_Bool, eqb-true, false_from_ne_true}
use Rattle.std.proofs.lemmas.List.{append-nil}
use Rattle.std.proofs.lemmas.Slice.Eq.{bytes_eq-Decides}
use Rattle.instructions.specs.Programs.{address}
use Rattle.isa.specs.Report.{hex_digit, hex8}
use Rattle.isa.specs.InstrText.{label_text}
use Rattle.isa.specs.Listing.{stands_in, is_double}
use Rattle.isa.proofs.HeldLabels.{stands_among}
use Rattle.disassembly.specs.Writing.{marked, with_mark}
use Rattle.disassembly.proofs.Few.{all_under, under}

-- ---- a name after labels that lack it, and another name

lookup_push : (t : List ℕ → Bool) (ps : List (List ℕ × ℕ)) (k : List ℕ) (v : ℕ) → lookup t ps ≡ None
    → lookup t (ps ++ (k, v) ∷ []) ≡ cond (t k) (Some v) None
lookup_push t [] k v e = refl
lookup_push t (p ∷ ps) k v e = elim (cases_Bool (t p.0)) [
  | inl is ↦ let bad : Some p.1 ≡ None = rw is at e in absurd cc
  | inr not ↦ let others : lookup t ps ≡ None = rw not at e in rw not (lookup_push t ps k v others)
]

lookup_keep : (t : List ℕ → Bool) (ps : List (List ℕ × ℕ)) (k : List ℕ) (v : ℕ) → t k ≡ false → lookup t (ps ++ (k, v) ∷ []) ≡ lookup t ps
lookup_keep t [] k v e = rw e refl
lookup_keep t (p ∷ ps) k v e = ap (cond (t p.0) (Some p.1)) (lookup_keep t ps k v e)

-- ---- digits

digits_back : all_under (λ d. digit_value (hex_digit d) == d) 16 ≡ true
digits_back = refl

pub digit_back : (n : ℕ) → digit_value (hex_digit (n % 16)) ≡ n % 16
digit_back n = eqb-true _ _ (under (λ d. digit_value (hex_digit d) == d) 16 (n % 16) digits_back (omega arith))

-- the value of byte k of a label
digit_at : (a b k m : ℕ) → (xs ys : List ℕ) → xs ≡ ys → get_or xs k 0 ≡ hex_digit (a / m % 16) → get_or ys k 0 ≡ hex_digit (b / m % 16) → a / m % 16 ≡ b / m % 16
digit_at a b k m xs ys same left right =
    let glyphs : hex_digit (a / m % 16) ≡ hex_digit (b / m % 16) = sym left ∙ ap (λ (l : List ℕ). get_or l k 0) same ∙ right in
    sym (digit_back (a / m)) ∙ ap digit_value glyphs ∙ digit_back (b / m)

-- where a label begins with the same seven digits, six bits tell two addresses of a text apart
pub label_injective : (a b : ℕ) → a < 2 ^ 32 → b < 2 ^ 32 → label_text a ≡ label_text b → a ≡ b
unfolding hex8
label_injective a b fa fb same =
    let d7 : a / 16 ^ 7 % 16 ≡ b / 16 ^ 7 % 16 = digit_at a b 1 (16 ^ 7) _ _ same refl refl in
    let d6 : a / 16 ^ 6 % 16 ≡ b / 16 ^ 6 % 16 = digit_at a b 2 (16 ^ 6) _ _ same refl refl in
    let d5 : a / 16 ^ 5 % 16 ≡ b / 16 ^ 5 % 16 = digit_at a b 3 (16 ^ 5) _ _ same refl refl in
    let d4 : a / 16 ^ 4 % 16 ≡ b / 16 ^ 4 % 16 = digit_at a b 4 (16 ^ 4) _ _ same refl refl in
    let d3 : a / 16 ^ 3 % 16 ≡ b / 16 ^ 3 % 16 = digit_at a b 5 (16 ^ 3) _ _ same refl refl in
    let d2 : a / 16 ^ 2 % 16 ≡ b / 16 ^ 2 % 16 = digit_at a b 6 (16 ^ 2) _ _ same refl refl in
    let d1 : a / 16 % 16 ≡ b / 16 % 16 = digit_at a b 7 16 _ _ same refl refl in
    let d0 : a % 16 ≡ b % 16 = sym (digit_back a) ∙ ap digit_value (ap (λ (l : List ℕ). get_or l 8 0) same) ∙ digit_back b in
    let e7 : a / 16 ^ 7 ≡ b / 16 ^ 7 = omega (arith, d7, fa, fb) in
    let e6 : a / 16 ^ 6 ≡ b / 16 ^ 6 = omega (arith, d6, e7) in
    let e5 : a / 16 ^ 5 ≡ b / 16 ^ 5 = omega (arith, d5, e6) in
    let e4 : a / 16 ^ 4 ≡ b / 16 ^ 4 = omega (arith, d4, e5) in
    let e3 : a / 16 ^ 3 ≡ b / 16 ^ 3 = omega (arith, d3, e4) in
    let e2 : a / 16 ^ 2 ≡ b / 16 ^ 2 = omega (arith, d2, e3) in
    let e1 : a / 16 ≡ b / 16 = omega (arith, d1, e2) in
    omega (arith, d0, e1)

-- ---- names in the table

other_name : (j k : ℕ) → j < 16384 → k < 16384 → (j ≡ k → ⊥) → bytes_eq (label_text (address j)) (label_text (address k)) ≡ false
other_name j k lj lk other = false_from_ne_true _ (λ is.
    let same : label_text (address j) ≡ label_text (address k) = (bytes_eq-Decides (label_text (address j)) (label_text (address k))).0 is in
    let at : address j ≡ address k = label_injective (address j) (address k) (omega arith) (omega arith) same in
    other (omega arith))

same_name : (k : ℕ) → bytes_eq (label_text (address k)) (label_text (address k)) ≡ true
same_name k = (bytes_eq-Decides (label_text (address k)) (label_text (address k))).1 refl

abbrev names_it : ℕ → List ℕ → Bool
names_it k x = bytes_eq x (label_text (address k))

-- no label before instruction k is that of an instruction from k on
pub none_before : (marks : List Bool) (k n : ℕ) → k ≤ n → n < 16384 → lookup (names_it n) (marked marks k) ≡ None
unfolding marked
none_before marks zero n le lt = refl
none_before marks (suc k) n le lt = by (slice_index_or marks k false) (none_before marks k n (omega arith) lt)
  where
    by : (m : Bool) → lookup (names_it n) (marked marks k) ≡ None → lookup (names_it n) (marked marks k ++ with_mark k m) ≡ None
    by true none =
        lookup_keep (names_it n) (marked marks k) (label_text (address k)) (address k) (other_name k n (omega arith) lt (λ e. omega arith)) ∙ none
    by false none = ap (lookup (names_it n)) (append-nil (marked marks k)) ∙ none

pub single : (marks : List Bool) (k : ℕ) → k < 16384 → is_double (map (λ p. p.0) (marked marks k)) (label_text (address k) ∷ []) ≡ false
single marks k lt =
    let none : stands_in (map (λ p. p.0) (marked marks k)) (label_text (address k)) ≡ false =
    sym (stands_among (label_text (address k)) (marked marks k)) ∙ ap is_some (none_before marks k k (omega arith) lt) in
    rw none refl

found_behind : (pairs : List (List ℕ × ℕ)) (n : ℕ) (more : List (List ℕ × ℕ)) → lookup (names_it n) pairs ≡ Some (address n)
    → lookup (names_it n) (pairs ++ more) ≡ Some (address n)
found_behind [] n more found = absurd cc
found_behind (p ∷ ps) n more found = elim (cases_Bool (names_it n p.0)) [
  | inl hit ↦ let is : Some p.1 ≡ Some (address n) = rw hit at found in rw hit is
  | inr miss ↦ let rest : lookup (names_it n) ps ≡ Some (address n) = rw miss at found in rw miss (found_behind ps n more rest)
]

-- the label of an instruction that has one is found
pub found_at : (marks : List Bool) (k n : ℕ) → n < k → k ≤ 16384 → slice_index_or marks n false ≡ true → lookup (names_it n) (marked marks k) ≡ Some (address n)
unfolding marked
found_at marks zero n lt le set = absurd (omega arith)
found_at marks (suc k) n lt le set = elim (cases_eq n k) [
  | inl last ↦
      let here : slice_index_or marks k false ≡ true = rw last at set in
      rw (here, last)
      (lookup_push (names_it k) (marked marks k) (label_text (address k)) (address k) (none_before marks k k (omega arith) (omega arith)) ∙ rw (same_name k) refl)
  | inr before ↦ found_behind (marked marks k) n (with_mark k (slice_index_or marks k false)) (found_at marks k n (omega arith) (omega arith) set)
]
