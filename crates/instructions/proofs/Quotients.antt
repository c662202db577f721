-- What quotients and remainders of whole numbers are, and both at the edges of a word, computed by the definitions.
use Rattle.std.proofs.Common.{◌≡◌, refl}
use Rattle.instructions.specs.Operations.{signed}
use Rattle.instructions.specs.Products.{word_of_half, product, quotient, remainder, signed_product, signed_quotient, signed_remainder}
use Rattle.instructions.specs.declared.op.Half.TheVariants.{High, Low}

-- -7 by 2, 7 by -2, -7 by -2
below_zero : (signed_quotient (signed 0xfffffff9) (signed 2) ≡ 0xfffffffd) × (signed_remainder (signed 0xfffffff9) (signed 2) ≡ 0xffffffff)
below_zero = (refl, refl)

divisor_below_zero : (signed_quotient (signed 7) (signed 0xfffffffe) ≡ 0xfffffffd) × (signed_remainder (signed 7) (signed 0xfffffffe) ≡ 1)
divisor_below_zero = (refl, refl)

both_below_zero : (signed_quotient (signed 0xfffffff9) (signed 0xfffffffe) ≡ 3) × (signed_remainder (signed 0xfffffff9) (signed 0xfffffffe) ≡ 0xffffffff)
both_below_zero = (refl, refl)

-- -2^31 by -1
least_by_minus_one : (signed_quotient (signed 0x80000000) (signed 0xffffffff) ≡ 0x80000000) × (signed_remainder (signed 0x80000000) (signed 0xffffffff) ≡ 0)
least_by_minus_one = (refl, refl)

-- 0 divides no number
zero_divisor : (quotient 9 0 ≡ 0) × (remainder 9 0 ≡ 9)
zero_divisor = (refl, refl)

signed_zero_divisor : (signed_quotient (signed 0xfffffff7) (signed 0) ≡ 0) × (signed_remainder (signed 0xfffffff7) (signed 0) ≡ 0xfffffff7)
signed_zero_divisor = (refl, refl)

-- -1 by -1, read with and without signs
ones : (word_of_half High (signed_product (signed 0xffffffff) (signed 0xffffffff)) ≡ 0) × (word_of_half High (product 0xffffffff 0xffffffff) ≡ 0xfffffffe)
ones = (refl, refl)

low_ones : (word_of_half Low (signed_product (signed 0xffffffff) (signed 0xffffffff)) ≡ 1) × (word_of_half Low (product 0xffffffff 0xffffffff) ≡ 1)
low_ones = (refl, refl)
