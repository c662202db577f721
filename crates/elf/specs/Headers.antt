-- The header of an ELF32 file, and its table of program headers.
use Rattle.std.specs.Prelude.{ℕ, ◌+◌, ◌*◌, ◌==◌, ◌&&◌, Bool, not, nat_lt, List, length, slice_index, Option, Some, None, Result, Ok, Err, if◌then◌else◌}
use Rattle.instructions.specs.Programs.{text_start}
use Rattle.elf.specs.declared.header.Table.{Table}
use Rattle.elf.specs.declared.segment.Segment.{Segment}
use Rattle.elf.specs.declared.refusal.Refusal.{Refusal}
use Rattle.elf.specs.declared.refusal.Refusal.TheVariants.{NotElf, Cut, Class, ByteOrder, Kind, Machine, Entry, Headers}
use Rattle.elf.specs.Bytes.{half_at, word_at}

-- the first four bytes of an ELF file: 0x7f and `ELF`
abbrev pub has_magic : List ℕ → Bool
has_magic file = not (nat_lt (length file) 4) && (word_at file 0 == 0x464c457f)

-- the first refusal by the first 20 bytes, in their order
unfoldable pub unfit : List ℕ → Option Refusal
unfit file =
    if not (slice_index file 4 == 1) then Some Class
    else (if not (slice_index file 5 == 1) then Some ByteOrder
    else (if not (half_at file 16 == 2) then Some Kind
    else (if not (half_at file 18 == 8) then Some Machine
    else None)))

-- The table of program headers, of 32 bytes each, inside the file. The program begins where its text
-- does.
unfoldable pub table_in : List ℕ → Result Table Refusal
table_in file =
    if not (word_at file 24 == text_start) then Err (Entry (word_at file 24))
    else (if not (half_at file 42 == 32) then Err Headers
    else (if nat_lt (length file) (word_at file 28 + 32 * half_at file 44) then Err Cut
    else Ok (record { at = word_at file 28; count = half_at file 44 })))

-- the refusal, if there is one, and else the table
abbrev pub refused_or : Option Refusal → Result Table Refusal → Result Table Refusal
refused_or (Some refusal) table = Err refusal
refused_or None table = table

-- the table of a file of at least 52 bytes that begins as an ELF file does
unfoldable pub table_of : List ℕ → Result Table Refusal
table_of file =
    if not (has_magic file) then Err NotElf
    else (if nat_lt (length file) 52 then Err Cut else refused_or (unfit file) (table_in file))

-- the program header at a place of the file
abbrev pub segment_of : List ℕ → ℕ → Segment
segment_of file at = record {
  kind = word_at file at;
  offset = word_at file (at + 4);
  address = word_at file (at + 8);
  filled = word_at file (at + 16);
  size = word_at file (at + 20);
}
