-- Products and quotients of words, as multiplications and divisions leave them in LO and HI.
use Rattle.std.specs.Prelude.{ℕ, ℤ, pos, ◌*◌, ◌/◌, ◌%◌, ◌^◌, ◌*ℤ◌, ◌==◌, int_div, int_rem, if◌then◌else◌}
use Rattle.std.specs.Ordering.{int_eq}
use Rattle.std.specs.Int.{w32, w64, cast_unsigned}
use Rattle.instructions.specs.declared.op.Half.{Half}
use Rattle.instructions.specs.declared.op.Half.TheVariants.{Low, High}

-- the low and the high word of a number of 64 bits
abbrev pub word_of_half : Half → ℕ → ℕ
word_of_half Low n = n % 2 ^ 32
word_of_half High n = n / 2 ^ 32 % 2 ^ 32

-- the product of two words, in 64 bits
abbrev pub product : ℕ → ℕ → ℕ
product a b = a * b

-- the product of two signed words, as two's complement of 64 bits
abbrev pub signed_product : ℤ → ℤ → ℕ
signed_product a b = cast_unsigned w64 (a *ℤ b)

-- the quotient; 0 where the divisor is 0
abbrev pub quotient : ℕ → ℕ → ℕ
quotient a b = if b == 0 then 0 else a / b

-- the remainder; the dividend where the divisor is 0
abbrev pub remainder : ℕ → ℕ → ℕ
remainder a b = if b == 0 then a else a % b

-- the quotient of two whole numbers, cut towards zero, as a word: that of -2^31 by -1 is 2^31
abbrev pub signed_quotient : ℤ → ℤ → ℕ
signed_quotient a b = if int_eq b (pos 0) then 0 else cast_unsigned w32 (int_div a b)

-- the remainder of two whole numbers, as a word: the dividend less the quotient times the divisor, with the sign of the
-- dividend
abbrev pub signed_remainder : ℤ → ℤ → ℕ
signed_remainder a b =
    if int_eq b (pos 0) then cast_unsigned w32 a else cast_unsigned w32 (int_rem a b)

-- a division leaves the quotient in LO and the remainder in HI
abbrev pub divided : Half → ℕ → ℕ → ℕ
divided Low a b = quotient a b
divided High a b = remainder a b

-- a division of signed words leaves the quotient in LO and the remainder in HI
abbrev pub signed_divided : Half → ℤ → ℤ → ℕ
signed_divided Low a b = signed_quotient a b
signed_divided High a b = signed_remainder a b
