-- Names, and the bytes that a line may have before its comment.
use Rattle.std.specs.Prelude.{ℕ, ◌==◌, ◌||◌, ◌&&◌, Bool, not, nat_le, List, length, slice_index}
use Rattle.std.specs.List.{list_all}
use Rattle.std.specs.Char.{is_ascii_digit, is_ascii_alphanumeric}

-- whether a name may have this byte: an ASCII letter, a digit, `_` or `.`
abbrev pub goes_on_name : ℕ → Bool
goes_on_name b = is_ascii_alphanumeric b || (b == 95) || (b == 46)

-- whether a text is a name: one or more of these bytes, the first of which is no digit
abbrev pub is_name : List ℕ → Bool
is_name text =
    not (length text == 0) && (not (is_ascii_digit (slice_index text 0)) && list_all goes_on_name text)

-- whether a byte may stand before a comment: a tab, or 0x20 to 0x7e
abbrev pub is_plain : ℕ → Bool
is_plain b = (b == 9) || (nat_le 0x20 b && nat_le b 0x7e)

-- whether each byte of a text may stand before a comment
abbrev pub is_plain_text : List ℕ → Bool
is_plain_text text = list_all is_plain text

-- whether a byte may stand before a comment and begins none
abbrev pub is_code_byte : ℕ → Bool
is_code_byte b = (b == 9) || (nat_le 0x20 b && (nat_le b 0x7e && not (b == 35)))
