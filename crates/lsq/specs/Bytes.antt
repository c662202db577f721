-- Numbers as bytes, the lowest first.
use Rattle.std.specs.Prelude.{ℕ, zero, suc, ◌+◌, ◌*◌, ◌/◌, ◌%◌, Option, Some, None}

-- a byte of a number, by its place
abbrev pub byte_of : ℕ → ℕ → ℕ
byte_of zero number = number % 256
byte_of (suc place) number = byte_of place (number / 256)

-- the number in n bytes from an address on
abbrev pub little_endian : (ℕ → ℕ) → ℕ → ℕ → ℕ
little_endian byte at zero = 0
little_endian byte at (suc width) = byte at + 256 * little_endian byte (at + 1) width

-- a byte before a number, where both are there
abbrev pub joined : Option ℕ → Option ℕ → Option ℕ
joined (Some low) (Some high) = Some (low + 256 * high)
joined _ _ = None

-- the number in n bytes from an address on, where each of them is there
abbrev pub little_endian_if_there : (ℕ → Option ℕ) → ℕ → ℕ → Option ℕ
little_endian_if_there byte at zero = Some 0
little_endian_if_there byte at (suc width) =
    joined (byte at) (little_endian_if_there byte (at + 1) width)
