-- What `{:08x}` writes of a word is its eight hexadecimal digits.
use Rattle.std.proofs.Common.{◌≡◌, ℕ, zero, suc, ◌+◌, ◌-◌, ◌/◌, ◌%◌, ◌^◌, ◌≤◌, ◌<◌, List, [], ◌∷◌, ◌++◌, length, replicate, false, refl, ap, ◌∙◌, arith, inl, inr}
use Rattle.std.specs.Fmt.{digits, digits_onto, padded_integral, format_spec, char_count}
use Rattle.std.proofs.Math.Nat.{div-div-eq-div-mul, pow-suc}
use Rattle.std.proofs.lemmas.Bool.{cases_lt, eq-eqb, ne_eqb}
use Rattle.std.proofs.lemmas.List.{append-nil}
use Rattle.isa.specs.Report.{hex_digit, hex8}

-- the last k digits of n, and then acc
abbrev pub low_digits : ℕ → ℕ → List ℕ → List ℕ
low_digits zero n acc = acc
low_digits (suc k) n acc = low_digits k (n / 16) (hex_digit (n % 16) ∷ acc)

zeros_next : (k : ℕ) (acc : List ℕ) → 48 ∷ (replicate k 48 ++ acc) ≡ replicate k 48 ++ (48 ∷ acc)
zeros_next zero acc = refl
zeros_next (suc k) acc = ap (λ (l : List ℕ). 48 ∷ l) (zeros_next k acc)

-- the digits of 0 are zeros
zeros_low : (k : ℕ) (acc : List ℕ) → replicate k 48 ++ acc ≡ low_digits k 0 acc
zeros_low zero acc = refl
zeros_low (suc k) acc = zeros_next k acc ∙ zeros_low k (48 ∷ acc)

-- a text, with zeros before it to a width
abbrev filled : ℕ → List ℕ → List ℕ
filled width text = replicate (width - length text) 48 ++ text

filled_last : (i n : ℕ) (acc : List ℕ) → n < 16
    → filled (suc i + length acc) (hex_digit (n % 16) ∷ acc) ≡ low_digits (suc i) n acc
filled_last i n acc small =
    let width : suc i + length acc - suc (length acc) ≡ i = omega arith in
    let front : n / 16 ≡ 0 = omega arith in
    rw (width, front) (zeros_low i (hex_digit (n % 16) ∷ acc))

onto_last : (k n : ℕ) (acc : List ℕ) → n < 16 → digits_onto (suc k) 16 false n acc ≡ hex_digit (n % 16) ∷ acc
onto_last k n acc small = rw (eq-eqb (n / 16) 0 (omega arith)) refl

onto_next : (k n : ℕ) (acc : List ℕ) → 16 ≤ n
    → digits_onto (suc k) 16 false n acc ≡ digits_onto k 16 false (n / 16) (hex_digit (n % 16) ∷ acc)
onto_next k n acc large = rw (ne_eqb (n / 16) 0 (λ e. omega arith)) refl

one_digit_less : (i n : ℕ) → n < 16 ^ suc (suc i) → n / 16 < 16 ^ suc i
one_digit_less i n small = omega (arith, pow-suc 16 (suc i))

-- a number of at most n digits, filled with zeros
filled_digits : (i k n : ℕ) (acc : List ℕ) → n < 16 ^ suc i → i ≤ k
    → filled (suc i + length acc) (digits_onto (suc k) 16 false n acc) ≡ low_digits (suc i) n acc
filled_digits zero k n acc small room = rw (onto_last k n acc (omega arith)) (filled_last zero n acc (omega arith))
filled_digits (suc i) zero n acc small room = absurd (omega arith)
filled_digits (suc i) (suc k) n acc small room =
    let rest : List ℕ = hex_digit (n % 16) ∷ acc in
    let width : suc (suc i) + length acc ≡ suc i + length rest = omega arith in
    elim (cases_lt n 16) [
      | inl one ↦ rw (onto_last (suc k) n acc one) (filled_last (suc i) n acc one)
      | inr more ↦ rw (onto_next (suc k) n acc more)
          (ap (λ w. filled w (digits_onto (suc k) 16 false (n / 16) rest)) width
          ∙ filled_digits i k (n / 16) rest (one_digit_less i n small) (omega arith))
    ]

padded_filled : (text : List ℕ) → padded_integral (format_spec 32 0 4 8 (2 ^ 64 - 1)) false [] text ≡ filled 8 text
unfolding padded_integral char_count
padded_filled text =
    let width : 8 - length text - 0 - 0 ≡ 8 - length text = omega arith in
    ap (λ w. replicate w 48 ++ (text ++ [])) width
    ∙ ap (λ (l : List ℕ). replicate (8 - length text) 48 ++ l) (append-nil text)

low_eight : (n : ℕ) → low_digits 8 n [] ≡ hex8 n
unfolding hex8
low_eight n =
    let by2 : n / 16 / 16 ≡ n / 16 ^ 2 = div-div-eq-div-mul n 16 16 in
    let by3 : n / 16 / 16 / 16 ≡ n / 16 ^ 3 = ap (λ m. m / 16) by2 ∙ div-div-eq-div-mul n (16 ^ 2) 16 in
    let by4 : n / 16 / 16 / 16 / 16 ≡ n / 16 ^ 4 = ap (λ m. m / 16) by3 ∙ div-div-eq-div-mul n (16 ^ 3) 16 in
    let by5 : n / 16 / 16 / 16 / 16 / 16 ≡ n / 16 ^ 5 = ap (λ m. m / 16) by4 ∙ div-div-eq-div-mul n (16 ^ 4) 16 in
    let by6 : n / 16 / 16 / 16 / 16 / 16 / 16 ≡ n / 16 ^ 6 =
    ap (λ m. m / 16) by5 ∙ div-div-eq-div-mul n (16 ^ 5) 16 in
    let by7 : n / 16 / 16 / 16 / 16 / 16 / 16 / 16 ≡ n / 16 ^ 7 =
    ap (λ m. m / 16) by6 ∙ div-div-eq-div-mul n (16 ^ 6) 16 in
    rw (by7, by6, by5, by4, by3, by2) refl

-- what `{:08x}` writes of a word
pub eight_digits : (n : ℕ) → n < 2 ^ 32
    → padded_integral (format_spec 32 0 4 8 (2 ^ 64 - 1)) false [] (digits 16 false n) ≡ hex8 n
unfolding digits
eight_digits n small = padded_filled _ ∙ filled_digits 7 63 n [] (omega arith) (omega arith) ∙ low_eight n

-- eight digits are those of the number's low 32 bits
pub hex8_word : (n : ℕ) → hex8 (n % 2 ^ 32) ≡ hex8 n
unfolding hex8
hex8_word n =
    let d7 : n % 2 ^ 32 / 16 ^ 7 % 16 ≡ n / 16 ^ 7 % 16 = omega arith in
    let d6 : n % 2 ^ 32 / 16 ^ 6 % 16 ≡ n / 16 ^ 6 % 16 = omega arith in
    let d5 : n % 2 ^ 32 / 16 ^ 5 % 16 ≡ n / 16 ^ 5 % 16 = omega arith in
    let d4 : n % 2 ^ 32 / 16 ^ 4 % 16 ≡ n / 16 ^ 4 % 16 = omega arith in
    let d3 : n % 2 ^ 32 / 16 ^ 3 % 16 ≡ n / 16 ^ 3 % 16 = omega arith in
    let d2 : n % 2 ^ 32 / 16 ^ 2 % 16 ≡ n / 16 ^ 2 % 16 = omega arith in
    let d1 : n % 2 ^ 32 / 16 % 16 ≡ n / 16 % 16 = omega arith in
    let d0 : n % 2 ^ 32 % 16 ≡ n % 16 = omega arith in
    rw (d7, d6, d5, d4, d3, d2, d1, d0) refl
