-- The operands of an instruction's text, read back.
use Rattle.std.proofs.Common.{◌≡◌, ℕ, zero, suc, ◌-◌, ◌%◌, ◌/◌, ◌^◌, ◌<◌, Bool, true, false, ◌&&◌, ◌==◌, List, [], ◌∷◌, ◌++◌, length, get_or, take, map, Some, Ok, Err, refl, ap, arith, inl, inr}
use Rattle.std.proofs.Common.{eqb-true}
use Rattle.std.specs.Prelude.{Result, codes}
use Rattle.std.specs.Fmt.{digits}
use Rattle.std.specs.List.{list_all}
use Rattle.std.proofs.lemmas.Bool.{ne_eqb, cases_lt, and_parts}
use Rattle.std.proofs.lemmas.Bool.Decides.{nat_tests}
use Rattle.lexical.specs.Cut.{after_byte}
use Rattle.lexical.specs.Name.{is_name, goes_on_name}
use Rattle.lexical.specs.Number.{numeral, decimal, decimal_in}
use Rattle.lexical.specs.Operand.{parenthesized, before_close}
use Rattle.instructions.specs.declared.instr.Instr.{Instr}
use Rattle.isa.specs.declared.listing.fault.FaultKind.{FaultKind}
use Rattle.isa.specs.declared.listing.slot.Slot.{Slot}
use Rattle.isa.specs.declared.listing.slot.Slot.TheVariants.{Into, First, Second, S16, U16, U5, Label, Offset}
use Rattle.isa.specs.declared.listing.instr_text.RegisterStyle.{RegisterStyle}
use Rattle.isa.specs.declared.listing.instr_text.RegisterStyle.TheVariants.{Numbers, Names}
use Rattle.isa.specs.RegisterNames.{register, register_number}
use Rattle.isa.specs.Operands.{label, offset_and_register}
use Rattle.isa.specs.Report.{hex_digit, hex8}
use Rattle.isa.specs.Statement.{Parsed, fill, filled}
use Rattle.isa.specs.InstrText.{register_text, signed_text, label_text, operand_text, Fits, AllFit, IsSignedHalf, with_slot, with_slots}
use Rattle.isa.proofs.TextBytes.{Of, of_append, of_all, inner, IsPart, part_of, part_trimmed, AreParts, before_at, some_length, part_starts}
use Rattle.isa.proofs.TextNumbers.{number_of, signed_half_of, decimal_part, signed_byte, signed_bytes, signed_part}

-- ---- what holds of a few numbers, computed

-- a test holds of the first n numbers
abbrev all_under : (ℕ → Bool) → ℕ → Bool
all_under test zero = true
all_under test (suc n) = all_under test n && test n

under : (test : ℕ → Bool) (n k : ℕ) → all_under test n ≡ true → k < n → test k ≡ true
under test zero k h lt = absurd (omega arith)
under test (suc n) k h lt =
    let both = and_parts (all_under test n) (test n) h in
    elim (cases_lt k n) [
      | inl less ↦ under test n k both.0 less
      | inr same ↦ let is : k ≡ n = omega arith in rw is both.1
    ]

-- an answer is this number
abbrev is_number : Result ℕ FaultKind → ℕ → Bool
is_number (Ok x) r = x == r
is_number (Err e) r = false

number_is : (answer : Result ℕ FaultKind) (r : ℕ) → is_number answer r ≡ true → answer ≡ Ok r
number_is (Ok x) r h = ap (λ (n : ℕ). Ok n) (eqb-true x r h)
number_is (Err e) r h = absurd (cc)

-- ---- registers

by_number : all_under (λ r. is_number (register (register_text Numbers r)) r) 32 ≡ true
unfolding register register_number decimal_in decimal numeral digits
by_number = refl

by_name : all_under (λ r. is_number (register (register_text Names r)) r) 32 ≡ true
unfolding register register_number decimal_in decimal numeral digits
by_name = refl

pub register_of : (naming : RegisterStyle) (r : ℕ) → r < 32 → register (register_text naming r) ≡ Ok r
register_of Numbers r h = number_is _ r (under (λ r. is_number (register (register_text Numbers r)) r) 32 r by_number h)
register_of Names r h = number_is _ r (under (λ r. is_number (register (register_text Names r)) r) 32 r by_name h)

numbers_inner : all_under (λ r. list_all inner (register_text Numbers r)) 32 ≡ true
unfolding digits
numbers_inner = refl

names_inner : all_under (λ r. list_all inner (register_text Names r)) 32 ≡ true
unfolding digits
names_inner = refl

pub register_part : (naming : RegisterStyle) (r : ℕ) → r < 32 → IsPart (register_text naming r)
register_part Numbers r h = of_all inner (register_text Numbers r) (under (λ r. list_all inner (register_text Numbers r)) 32 r numbers_inner h)
register_part Names r h = of_all inner (register_text Names r) (under (λ r. list_all inner (register_text Names r)) 32 r names_inner h)

-- ---- labels

digits_go_on : all_under (λ d. goes_on_name (hex_digit d)) 16 ≡ true
digits_go_on = refl

digits_inner : all_under (λ d. inner (hex_digit d)) 16 ≡ true
digits_inner = refl

goes_on : (n : ℕ) → goes_on_name (hex_digit (n % 16)) ≡ true
goes_on n = under (λ d. goes_on_name (hex_digit d)) 16 (n % 16) digits_go_on (omega arith)

digit_inner : (n : ℕ) → inner (hex_digit (n % 16)) ≡ true
digit_inner n = under (λ d. inner (hex_digit d)) 16 (n % 16) digits_inner (omega arith)

pub label_part : (n : ℕ) → IsPart (label_text n)
unfolding hex8
label_part n =
    let d = digit_inner in
    (refl, (d (n / 16 ^ 7), (d (n / 16 ^ 6), (d (n / 16 ^ 5), (d (n / 16 ^ 4), (d (n / 16 ^ 3), (d (n / 16 ^ 2), (d (n / 16), (d n, tt)))))))))

pub label_is_name : (n : ℕ) → is_name (label_text n) ≡ true
unfolding hex8
label_is_name n =
    rw (goes_on (n / 16 ^ 7), goes_on (n / 16 ^ 6), goes_on (n / 16 ^ 5), goes_on (n / 16 ^ 4), goes_on (n / 16 ^ 3), goes_on (n / 16 ^ 2), goes_on (n / 16), goes_on n)
    refl

pub label_of : (n : ℕ) → label (label_text n) ≡ Ok (label_text n)
label_of n = rw (label_is_name n) refl

-- ---- offsets

not_open : (b : ℕ) → signed_byte b ≡ true → (b == 40) ≡ false
not_open b h = grind (arith, nat_tests)

after_open : (xs ys : List ℕ) → Of signed_byte xs → after_byte 40 (xs ++ 40 ∷ ys) ≡ Some ys
after_open [] ys h = refl
after_open (x ∷ xs) ys h = rw (not_open x h.0) (after_open xs ys h.1)

last_byte : (xs : List ℕ) → get_or (xs ++ 41 ∷ []) (length xs) 0 ≡ 41
last_byte [] = refl
last_byte (x ∷ xs) = last_byte xs

front : (xs : List ℕ) → take (length xs) (xs ++ 41 ∷ []) ≡ xs
front [] = refl
front (x ∷ xs) = ap (λ (l : List ℕ). x ∷ l) (front xs)

one_more : (xs : List ℕ) → length (xs ++ 41 ∷ []) ≡ suc (length xs)
one_more [] = refl
one_more (x ∷ xs) = ap suc (one_more xs)

closed : (xs : List ℕ) → before_close (Some (xs ++ 41 ∷ [])) ≡ Some xs
closed xs =
    let some : (suc (length xs) == 0) ≡ false = ne_eqb (suc (length xs)) 0 (λ e. omega arith) in
    let less : suc (length xs) - 1 ≡ length xs = omega arith in
    rw (one_more xs, some, less, last_byte xs, front xs) refl

pub parenthesized_of : (xs ys : List ℕ) → Of signed_byte xs → IsPart xs → IsPart ys
    → parenthesized (xs ++ (40 ∷ (ys ++ 41 ∷ []))) ≡ Some (xs, ys)
unfolding parenthesized
parenthesized_of xs ys h px py =
    rw (before_at signed_byte (λ b. b == 40) not_open xs 40 (ys ++ 41 ∷ []) h refl, after_open xs (ys ++ 41 ∷ []) h, closed ys, part_trimmed xs px, part_trimmed ys py)
    refl

pub offset_of : (naming : RegisterStyle) (n r : ℕ) → IsSignedHalf n → r < 32
    → offset_and_register (signed_text n ++ (codes "(" ++ (register_text naming r ++ codes ")"))) ≡ Ok (n, r)
unfolding offset_and_register
offset_of naming n r half small =
    let part = signed_part n half in
    rw (
      parenthesized_of (signed_text n) (register_text naming r) (signed_bytes n half) part (register_part naming r small),
      some_length _ (part_starts _ part),
      signed_half_of n half,
      register_of naming r small,
    )
    refl

pub offset_part : (naming : RegisterStyle) (n r : ℕ) → IsSignedHalf n → r < 32
    → IsPart (signed_text n ++ (codes "(" ++ (register_text naming r ++ codes ")")))
offset_part naming n r half small = before (signed_text n) (signed_part n half)
  where
    after : Of inner (codes "(" ++ (register_text naming r ++ codes ")"))
    after = (refl, of_append inner (register_text naming r) (codes ")") (part_of (register_text naming r) (register_part naming r small)) (refl, tt))

    before : (xs : List ℕ) → IsPart xs → IsPart (xs ++ (codes "(" ++ (register_text naming r ++ codes ")")))
    before [] h = absurd h
    before (x ∷ xs) h = of_append inner (x ∷ xs) (codes "(" ++ (register_text naming r ++ codes ")")) h after

-- ---- any operand

pub fill_of : (naming : RegisterStyle) (i : Instr) (s : Slot) (p : Parsed) → Fits i s → fill s (operand_text naming s i) p ≡ Ok (with_slot i s p)
unfolding fill
fill_of naming i Into p h = rw (register_of naming i.target h) refl
fill_of naming i First p h = rw (register_of naming i.first h) refl
fill_of naming i Second p h = rw (register_of naming i.second h) refl
fill_of naming i S16 p h = rw (signed_half_of i.number h) refl
fill_of naming i U16 p h = rw (number_of 0 65535 i.number h (omega arith)) refl
fill_of naming i U5 p h = rw (number_of 0 31 i.number h (omega arith)) refl
fill_of naming i Label p h = rw (label_of i.number) refl
fill_of naming i Offset p h = rw (offset_of naming i.number i.first h.0 h.1) refl

pub part_is : (naming : RegisterStyle) (i : Instr) (s : Slot) → Fits i s → IsPart (operand_text naming s i)
part_is naming i Into h = register_part naming i.target h
part_is naming i First h = register_part naming i.first h
part_is naming i Second h = register_part naming i.second h
part_is naming i S16 h = signed_part i.number h
part_is naming i U16 h = decimal_part i.number (omega arith)
part_is naming i U5 h = decimal_part i.number (omega arith)
part_is naming i Label h = label_part i.number
part_is naming i Offset h = offset_part naming i.number i.first h.0 h.1

-- ---- all operands

pub filled_of : (naming : RegisterStyle) (i : Instr) (ss : List Slot) (p : Parsed) → AllFit i ss
    → filled ss (map (λ s. operand_text naming s i) ss) p ≡ Ok (with_slots i ss p)
unfolding filled
filled_of naming i [] p h = refl
filled_of naming i (s ∷ ss) p h = rw (fill_of naming i s p h.0) (filled_of naming i ss (with_slot i s p) h.1)

pub parts_are : (naming : RegisterStyle) (i : Instr) (ss : List Slot) → AllFit i ss → AreParts (map (λ s. operand_text naming s i) ss)
parts_are naming i [] h = tt
parts_are naming i (s ∷ ss) h = (part_is naming i s h.0, parts_are naming i ss h.1)
