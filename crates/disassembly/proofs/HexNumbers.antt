-- Eight hexadecimal digits are read as their number.
use Rattle.std.proofs.Common.{◌≡◌, ℕ, ◌+◌, ◌*◌, ◌/◌, ◌%◌, ◌^◌, ◌<◌, true, Some, Ok, refl, ap, arith}
use Rattle.std.specs.Char.{is_digit}
use Rattle.std.proofs.lemmas.Bool.{le-leb}
use Rattle.lexical.specs.Number.{magnitude, numeral, number_in}
use Rattle.isa.specs.Operands.{number}
use Rattle.isa.specs.Report.{hex_digit, hex8, hexadecimal}
use Rattle.isa.proofs.TextBytes.{inner, IsPart}
use Rattle.disassembly.proofs.LabelNames.{digit_back}
use Rattle.disassembly.proofs.Few.{all_under, under}

digits_are : all_under (λ d. is_digit (hex_digit d) 16) 16 ≡ true
digits_are = refl

digit_is : (n : ℕ) → is_digit (hex_digit (n % 16)) 16 ≡ true
digit_is n = under (λ d. is_digit (hex_digit d) 16) 16 (n % 16) digits_are (omega arith)

digits_inner : all_under (λ d. inner (hex_digit d)) 16 ≡ true
digits_inner = refl

digit_inner : (n : ℕ) → inner (hex_digit (n % 16)) ≡ true
digit_inner n = under (λ d. inner (hex_digit d)) 16 (n % 16) digits_inner (omega arith)

pub hex_part : (n : ℕ) → IsPart (hexadecimal n)
unfolding hex8
hex_part n =
    let d = digit_inner in
    (refl, (refl, (d (n / 16 ^ 7), (d (n / 16 ^ 6), (d (n / 16 ^ 5), (d (n / 16 ^ 4), (d (n / 16 ^ 3), (d (n / 16 ^ 2), (d (n / 16), (d n, tt))))))))))

-- eight digits, the highest first, are the number
eight_digits : (n : ℕ) → n < 2 ^ 32
    → ((((((((0 * 16 + n / 16 ^ 7 % 16) * 16 + n / 16 ^ 6 % 16) * 16 + n / 16 ^ 5 % 16) * 16 + n / 16 ^ 4 % 16) * 16 + n / 16 ^ 3 % 16) * 16 + n / 16 ^ 2 % 16) * 16 + n / 16 % 16) * 16 + n % 16) ≡ n
eight_digits n small =
    let e7 : 0 * 16 + n / 16 ^ 7 % 16 ≡ n / 16 ^ 7 = omega arith in
    let e6 : n / 16 ^ 7 * 16 + n / 16 ^ 6 % 16 ≡ n / 16 ^ 6 = omega arith in
    let e5 : n / 16 ^ 6 * 16 + n / 16 ^ 5 % 16 ≡ n / 16 ^ 5 = omega arith in
    let e4 : n / 16 ^ 5 * 16 + n / 16 ^ 4 % 16 ≡ n / 16 ^ 4 = omega arith in
    let e3 : n / 16 ^ 4 * 16 + n / 16 ^ 3 % 16 ≡ n / 16 ^ 3 = omega arith in
    let e2 : n / 16 ^ 3 * 16 + n / 16 ^ 2 % 16 ≡ n / 16 ^ 2 = omega arith in
    let e1 : n / 16 ^ 2 * 16 + n / 16 % 16 ≡ n / 16 = omega arith in
    rw (e7, e6, e5, e4, e3, e2, e1) (omega arith)

hex_magnitude : (n : ℕ) → n < 2 ^ 32 → magnitude (hexadecimal n) ≡ Some n
unfolding magnitude numeral hex8
hex_magnitude n small =
    let v = digit_back in
    rw (
      digit_is (n / 16 ^ 7),
      digit_is (n / 16 ^ 6),
      digit_is (n / 16 ^ 5),
      digit_is (n / 16 ^ 4),
      digit_is (n / 16 ^ 3),
      digit_is (n / 16 ^ 2),
      digit_is (n / 16),
      digit_is n,
      v (n / 16 ^ 7),
      v (n / 16 ^ 6),
      v (n / 16 ^ 5),
      v (n / 16 ^ 4),
      v (n / 16 ^ 3),
      v (n / 16 ^ 2),
      v (n / 16),
      v n,
    )
    (ap (λ (m : ℕ). Some m) (eight_digits n small))

pub hex_number : (n : ℕ) → n < 2 ^ 32 → number 2147483648 4294967295 (hexadecimal n) ≡ Ok n
unfolding number number_in hex8
hex_number n small = rw (hex_magnitude n small, le-leb n 4294967295 (omega arith)) refl
