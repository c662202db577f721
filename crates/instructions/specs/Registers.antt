-- The registers.
use Rattle.std.specs.Prelude.{ℕ}

-- the number of general registers, which a listing can name
abbrev pub general_count : ℕ
general_count = 32

-- LO: the low word of a product, or the quotient of a division
abbrev pub lo : ℕ
lo = 32

-- HI: the high word of a product, or the remainder of a division
abbrev pub hi : ℕ
hi = 33

-- the number of registers
abbrev pub register_count : ℕ
register_count = 34
