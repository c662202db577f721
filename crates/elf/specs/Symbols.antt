-- The functions that a file's table of symbols names.
use Rattle.std.specs.Prelude.{ℕ, zero, suc, ◌+◌, ◌*◌, ◌/◌, ◌%◌, ◌==◌, ◌&&◌, Bool, not, nat_lt, nat_le, List, [], ◌∷◌, ◌++◌, length, take, drop, slice_index, position, Option, Some, None, if◌then◌else◌}
use Rattle.elf.specs.declared.section.Section.{Section}
use Rattle.elf.specs.declared.symbol.Symbols.{Symbols}
use Rattle.elf.specs.declared.symbol.Function.{Function}
use Rattle.elf.specs.Bytes.{half_at, word_at}

-- whether the section headers, of 40 bytes each, are inside the file
abbrev pub has_sections : List ℕ → Bool
has_sections file =
    not (nat_lt (length file) 52) && ((half_at file 46 == 40)
    && not (nat_lt (length file) (word_at file 32 + 40 * half_at file 48)))

-- the section header at a place of the file
abbrev pub section_of : List ℕ → ℕ → Section
section_of file at = record {
  kind = word_at file (at + 4);
  offset = word_at file (at + 16);
  size = word_at file (at + 20);
  link = word_at file (at + 24);
}

-- a table of symbols inside the file, with its names in one of n sections
abbrev pub is_symbols : List ℕ → ℕ → Section → Bool
is_symbols file count s =
    (s.kind == 2) && (nat_lt s.link count && not (nat_lt (length file) (s.offset + s.size)))

-- a section's table of symbols, of 16 bytes each
abbrev pub symbols_of : List ℕ → ℕ → Section → Symbols
symbols_of file at s = record {
  at = s.offset;
  count = s.size / 16;
  names = (section_of file (at + 40 * s.link)).offset;
}

-- the table of symbols of this section, if it is one, and else the other
abbrev pub symbols_or : Option Symbols → List ℕ → (at count : ℕ) → Section → Option Symbols
symbols_or others file at count s =
    if is_symbols file count s then Some (symbols_of file at s) else others

-- the last table of symbols among the first n of all sections
unfoldable pub symbols_up_to : List ℕ → (at count n : ℕ) → Option Symbols
symbols_up_to file at count zero = None
symbols_up_to file at count (suc n) =
    symbols_or (symbols_up_to file at count n) file at count (section_of file (at + 40 * n))

-- the last table of symbols of a file, where its headers lead to one
unfoldable pub symbols_in : List ℕ → Option Symbols
symbols_in file =
    if has_sections file then symbols_up_to file (word_at file 32) (half_at file 48) (half_at file 48)
    else None

-- whether a symbol is a function: the lower four bits of its info are 2
abbrev pub is_function : List ℕ → ℕ → Bool
is_function file at = slice_index file (at + 12) % 16 == 2

-- the function of the symbol at a place of the file
abbrev pub function_at : List ℕ → (names at : ℕ) → Function
function_at file names at =
    record { address = word_at file (at + 4); name = names + word_at file at }

-- these functions and that of a symbol, if it is one
abbrev pub with_function : List ℕ → (names at : ℕ) → List Function → List Function
with_function file names at before =
    if is_function file at then before ++ function_at file names at ∷ [] else before

-- the functions among the first n symbols
unfoldable pub functions_up_to : List ℕ → (names at n : ℕ) → List Function
functions_up_to file names at zero = []
functions_up_to file names at (suc n) =
    with_function file names (at + 16 * n) (functions_up_to file names at n)

-- the functions of a table of symbols, if there is one
abbrev pub functions_by : List ℕ → Option Symbols → List Function
functions_by file None = []
functions_by file (Some s) = functions_up_to file s.names s.at s.count

-- the functions that a file names; none where its headers do not lead to a table of symbols
unfoldable pub functions_in : List ℕ → List Function
functions_in file = functions_by file (symbols_in file)

-- ---- names

-- whether a byte is a printable character of ASCII and no blank
abbrev pub is_graphic : ℕ → Bool
is_graphic b = nat_le 33 b && nat_le b 126

-- a text up to a place, if there is one
abbrev pub cut_at : Option ℕ → List ℕ → List ℕ
cut_at None text = text
cut_at (Some n) text = take n text

-- at most n bytes of a text
abbrev pub first_at_most : ℕ → List ℕ → List ℕ
first_at_most n text = if nat_lt (length text) n then text else take n text

-- the bytes of a file from a place on, at most 60
abbrev pub name_window : List ℕ → ℕ → List ℕ
name_window file at = if nat_lt (length file) at then [] else first_at_most 60 (drop at file)

-- the printable characters from a place on, at most 60
abbrev pub printable_at : List ℕ → ℕ → List ℕ
printable_at file at = cut_at (position (λ b. not (is_graphic b)) (name_window file at)) (name_window file at)
