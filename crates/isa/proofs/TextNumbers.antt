-- Numbers as an instruction's text has them, read back.
use Rattle.std.proofs.Common.{◌≡◌, ℕ, suc, ◌-◌, ◌^◌, ◌≤◌, ◌<◌, Bool, true, false, ◌&&◌, ◌||◌, ◌==◌, leb, List, [], ◌∷◌, length, get_or, Some, Ok, refl, ap, arith, inl, inr}
use Rattle.std.specs.Fmt.{decimal as decimal_text, signed_decimal}
use Rattle.std.specs.Int.{w32}
use Rattle.std.specs.List.{list_all}
use Rattle.std.specs.Char.{is_digit, digit_value, is_ascii_digit}
use Rattle.std.specs.Str.Parse.{AllDigits}
use Rattle.std.proofs.lemmas.Bool.{ne_eqb, cases_lt, lt-ltb, le-ltb, le-leb, and_from}
use Rattle.std.proofs.lemmas.Bool.Decides.{nat_tests}
use Rattle.std.proofs.lemmas.Fmt.{decimal_is_IsNumeral, decimal_digit, first_decimal, decimal_nonempty}
use Rattle.std.proofs.lemmas.Int.{to_z_pos}
use Rattle.std.proofs.lemmas.Str.Parse.{digit_from_value}
use Rattle.lexical.specs.Number.{numeral, has_leading_zero, decimal, starts_hex, magnitude, first_is, begins_number, negated, number_in}
use Rattle.isa.specs.Operands.{number, signed_half}
use Rattle.isa.specs.InstrText.{signed_text, IsSignedHalf}
use Rattle.isa.proofs.TextBytes.{Of, inner, IsPart, of_other}

-- ---- digits

-- a decimal digit
abbrev pub digit : ℕ → Bool
digit b = leb 48 b && leb b 57

digits_of : (ds : List ℕ) → AllDigits 10 ds → Of digit ds
digits_of [] h = tt
digits_of (d ∷ ds) h =
    let range = digit_from_value d h.0 in
    (and_from _ _ (le-leb 48 d (omega (arith, range))) (le-leb d 57 (omega (arith, range))), digits_of ds h.1)

all_digits : (ds : List ℕ) → AllDigits 10 ds → list_all (λ c. is_digit c 10) ds ≡ true
all_digits [] h = refl
all_digits (d ∷ ds) h = and_from _ _ (lt-ltb (digit_value d) 10 h.0) (all_digits ds h.1)

pub decimal_digits : (n : ℕ) → n < 2 ^ 64 → Of digit (decimal_text n)
decimal_digits n small = digits_of (decimal_text n) ((decimal_is_IsNumeral n small).0).1

-- the first byte of a text passes a test
abbrev pub First : (ℕ → Bool) → List ℕ → Type 0
First q [] = ⊥
First q (x ∷ xs) = q x ≡ true

first_of : (q : ℕ → Bool) (xs : List ℕ) → 0 < length xs → Of q xs → First q xs
first_of q [] h all = absurd (omega arith)
first_of q (x ∷ xs) h all = all.0

pub decimal_first : (n : ℕ) → n < 2 ^ 64 → First digit (decimal_text n)
decimal_first n small = first_of digit (decimal_text n) (decimal_nonempty n small) (decimal_digits n small)

pub not_empty : (x : ℕ) (xs : List ℕ) → (length (x ∷ xs) == 0) ≡ false
not_empty x xs = ne_eqb (length (x ∷ xs)) 0 (λ e. omega arith)

-- a text that begins with a digit begins a number, and has no sign
digit_begins : (xs : List ℕ) → First digit xs → begins_number xs ≡ true
digit_begins [] h = absurd h
digit_begins (x ∷ xs) h =
    let is : is_ascii_digit x ≡ true = grind (arith, nat_tests) in
    rw (not_empty x xs, is) (grind (arith, nat_tests))

other_first : (c : ℕ) (xs : List ℕ) → ((x : ℕ) → digit x ≡ true → (x == c) ≡ false) → First digit xs → first_is c xs ≡ false
other_first c [] f h = absurd h
other_first c (x ∷ xs) f h = rw (not_empty x xs, f x h) refl

no_minus : (x : ℕ) → digit x ≡ true → (x == 45) ≡ false
no_minus x h = grind (arith, nat_tests)

no_plus : (x : ℕ) → digit x ≡ true → (x == 43) ≡ false
no_plus x h = grind (arith, nat_tests)

-- ---- magnitudes

-- a number below 10 is one digit
one_digit : (n : ℕ) → n < 10 → (starts_hex (decimal_text n) ≡ false) × (has_leading_zero (decimal_text n) ≡ false)
one_digit n small = rw (decimal_digit n small) (refl, refl)

high_first : (xs : List ℕ) → 48 < get_or xs 0 0 → (starts_hex xs ≡ false) × (has_leading_zero xs ≡ false)
high_first xs h =
    let other : (get_or xs 0 0 == 48) ≡ false = ne_eqb (get_or xs 0 0) 48 (λ e. omega arith) in
    rw other (grind arith, grind arith)

no_prefix : (n : ℕ) → n < 2 ^ 64 → (starts_hex (decimal_text n) ≡ false) × (has_leading_zero (decimal_text n) ≡ false)
no_prefix n small = elim (cases_lt n 10) [
  | inl one ↦ one_digit n one
  | inr more ↦ high_first (decimal_text n) (first_decimal n (omega arith) small)
]

numeral_of : (n : ℕ) → n < 2 ^ 64 → numeral 10 (decimal_text n) ≡ Some n
unfolding numeral
numeral_of n small =
    let is = decimal_is_IsNumeral n small in
    let some : (length (decimal_text n) == 0) ≡ false = ne_eqb _ 0 (λ e. omega (arith, (is.0).0)) in
    rw (some, all_digits (decimal_text n) (is.0).1, is.1) refl

pub magnitude_of : (n : ℕ) → n < 2 ^ 64 → magnitude (decimal_text n) ≡ Some n
unfolding magnitude decimal
magnitude_of n small =
    let none = no_prefix n small in
    rw (none.0, none.1) (numeral_of n small)

-- ---- numbers

pub number_of : (below above n : ℕ) → n ≤ above → n < 2 ^ 64 → number below above (decimal_text n) ≡ Ok n
unfolding number number_in
number_of below above n most small =
    let first = decimal_first n small in
    rw (digit_begins _ first, other_first 45 _ no_minus first, other_first 43 _ no_plus first, magnitude_of n small, le-leb n above most) refl

begins_minus : (ds : List ℕ) → begins_number (45 ∷ ds) ≡ true
begins_minus ds = rw (not_empty 45 ds) refl

minus_no_plus : (ds : List ℕ) → first_is 43 (45 ∷ ds) ≡ false
minus_no_plus ds = rw (not_empty 45 ds) refl

pub negative_of : (below above m n : ℕ) → m ≤ below → m < 2 ^ 64 → negated m ≡ n → number below above (45 ∷ decimal_text m) ≡ Ok n
unfolding number number_in
negative_of below above m n most small is =
    rw (begins_minus (decimal_text m), minus_no_plus (decimal_text m), magnitude_of m small, le-leb m below most, is) refl

-- ---- numbers with a sign

pub signed_positive : (n : ℕ) → n ≤ 32767 → signed_text n ≡ decimal_text n
signed_positive n h = ap signed_decimal (to_z_pos w32 n (omega arith))

-- how far a word lies below 2^32
abbrev pub below_zero : ℕ → ℕ
below_zero n = suc (2 ^ 32 - suc n)

pub signed_negative : (n : ℕ) → 2 ^ 32 - 32768 ≤ n → signed_text n ≡ 45 ∷ decimal_text (below_zero n)
signed_negative n h =
    let large : (2 ^ 31) ≤ n = omega arith in
    rw (le-ltb n (2 ^ 31) large) refl

pub signed_half_of : (n : ℕ) → IsSignedHalf n → signed_half (signed_text n) ≡ Ok n
signed_half_of n h = elim h [
  | inl low ↦ rw (signed_positive n low) (number_of 32768 32767 n low (omega arith))
  | inr high ↦
      let at : 2 ^ 32 - 32768 ≤ n = high.0 in
      let under : n < 2 ^ 32 = high.1 in
      rw (signed_negative n at)
      (negative_of 32768 32767 (below_zero n) n (omega arith) (omega arith) (omega arith))
]

-- ---- bytes

pub digit_inner : (b : ℕ) → digit b ≡ true → inner b ≡ true
digit_inner b h = grind (arith, nat_tests)

part_of_digits : (xs : List ℕ) → First digit xs → Of digit xs → IsPart xs
part_of_digits [] h all = absurd h
part_of_digits (x ∷ xs) h all = of_other digit inner digit_inner (x ∷ xs) all

pub decimal_part : (n : ℕ) → n < 2 ^ 64 → IsPart (decimal_text n)
decimal_part n small = part_of_digits (decimal_text n) (decimal_first n small) (decimal_digits n small)

-- a digit or a minus
abbrev pub signed_byte : ℕ → Bool
signed_byte b = (b == 45) || digit b

digit_signed : (b : ℕ) → digit b ≡ true → signed_byte b ≡ true
digit_signed b h = grind (arith, nat_tests)

pub signed_bytes : (n : ℕ) → IsSignedHalf n → Of signed_byte (signed_text n)
signed_bytes n h = elim h [
  | inl low ↦ rw (signed_positive n low)
      (of_other digit signed_byte digit_signed _ (decimal_digits n (omega arith)))
  | inr high ↦
      let at : 2 ^ 32 - 32768 ≤ n = high.0 in
      rw (signed_negative n at)
      (refl, of_other digit signed_byte digit_signed _ (decimal_digits (below_zero n) (omega arith)))
]

pub signed_part : (n : ℕ) → IsSignedHalf n → IsPart (signed_text n)
signed_part n h = elim h [
  | inl low ↦ rw (signed_positive n low) (decimal_part n (omega arith))
  | inr high ↦
      let at : 2 ^ 32 - 32768 ≤ n = high.0 in
      rw (signed_negative n at)
      (refl, of_other digit inner digit_inner _ (decimal_digits (below_zero n) (omega arith)))
]
