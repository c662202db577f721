-- Numbers: an optional sign, and then decimal digits or `0x` and hexadecimal digits.
use Rattle.std.specs.Prelude.{ℕ, ◌-◌, ◌%◌, ◌^◌, min, ◌==◌, ◌||◌, ◌&&◌, Bool, not, nat_lt, nat_le, List, length, drop, slice_index, Option, Some, None, if◌then◌else◌}
use Rattle.std.specs.List.{list_all}
use Rattle.std.specs.Option.{option_map}
use Rattle.std.specs.Char.{is_digit, is_ascii_digit}
use Rattle.std.specs.Str.Parse.{digits_value}

-- ---- digits

-- the value of one digit or more in a radix
unfoldable pub numeral : ℕ → List ℕ → Option ℕ
numeral radix text =
    if (length text == 0) || not (list_all (λ c. is_digit c radix) text) then None
    else Some (digits_value radix text)

-- whether digits begin with a zero that is not alone
abbrev pub has_leading_zero : List ℕ → Bool
has_leading_zero text = nat_lt 1 (length text) && (slice_index text 0 == 48)

-- a decimal number, which has no leading zero
unfoldable pub decimal : List ℕ → Option ℕ
decimal text = if has_leading_zero text then None else numeral 10 text

-- whether a text begins with `0x` or `0X`
abbrev pub starts_hex : List ℕ → Bool
starts_hex text =
    nat_lt 1 (length text)
    && ((slice_index text 0 == 48) && ((slice_index text 1 == 120) || (slice_index text 1 == 88)))

-- a decimal number, or `0x` or `0X` and hexadecimal digits
unfoldable pub magnitude : List ℕ → Option ℕ
magnitude text = if starts_hex text then numeral 16 (drop 2 text) else decimal text

-- a magnitude, or 2^32 for a greater one
abbrev pub capped : ℕ → ℕ
capped n = min n 4294967296

-- ---- numbers with a sign

-- whether the first byte of a text is this one
abbrev pub first_is : ℕ → List ℕ → Bool
first_is b text = not (length text == 0) && (slice_index text 0 == b)

-- whether the first byte of a text is a digit, `+` or `-`
abbrev pub begins_number : List ℕ → Bool
begins_number text =
    not (length text == 0)
    && ((slice_index text 0 == 43) || ((slice_index text 0 == 45) || is_ascii_digit (slice_index text 0)))

-- a text without its `+` or `-`
abbrev pub without_sign : List ℕ → List ℕ
without_sign text = if first_is 43 text || first_is 45 text then drop 1 text else text

-- a magnitude in a range
abbrev pub at_most : ℕ → Option ℕ → Option ℕ
at_most most None = None
at_most most (Some n) = if nat_le n most then Some n else None

-- minus a number, modulo 2^32
abbrev pub negated : ℕ → ℕ
negated n = (2 ^ 32 - n) % 2 ^ 32

-- A number modulo 2^32: at most `below` behind a minus, and at most `above` without one.
unfoldable pub number_in : ℕ → ℕ → List ℕ → Option ℕ
number_in below above text =
    if first_is 45 text then option_map negated (at_most below (magnitude (without_sign text)))
    else at_most above (magnitude (without_sign text))

-- a decimal number without a sign
unfoldable pub decimal_in : ℕ → List ℕ → Option ℕ
decimal_in most text = at_most most (decimal text)
