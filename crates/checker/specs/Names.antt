-- The name of a file as it is shown: without control characters.
use Rattle.std.specs.Prelude.{ℕ, List, flat_map, if◌then◌else◌}
use Rattle.std.specs.Char.{encode_utf8, is_control}
use Rattle.std.specs.Str.{chars}
use Rattle.checker.specs.Spots.{escape}

-- a character of a name: as it is, or a control character, in ASCII or beyond it, by the escapes of its bytes
abbrev pub shown_character : ℕ → List ℕ
shown_character c = if is_control c then flat_map escape (encode_utf8 c) else encode_utf8 c

-- the name of a file, which is text in UTF-8, as it is shown
abbrev pub name_text : List ℕ → List ℕ
name_text file = flat_map shown_character (chars file)
