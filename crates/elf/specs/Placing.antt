-- The image that the segments of a file load.
use Rattle.std.specs.Prelude.{ℕ, zero, suc, ◌+◌, ◌*◌, ◌/◌, ◌%◌, ◌==◌, ◌&&◌, ◌||◌, Bool, not, nat_lt, List, ◌++◌, length, take, drop, slice_range, Result, Ok, Err, if◌then◌else◌}
use Rattle.instructions.specs.Programs.{text_start}
use Rattle.elf.specs.declared.header.Table.{Table}
use Rattle.elf.specs.declared.segment.Segment.{Segment}
use Rattle.elf.specs.declared.refusal.Refusal.{Refusal}
use Rattle.elf.specs.declared.refusal.Refusal.TheVariants.{Cut, Segment as NoRoom, NoText}
use Rattle.elf.specs.Bytes.{words}
use Rattle.elf.specs.Images.{Loaded, data_size, nothing_loaded}
use Rattle.elf.specs.Headers.{segment_of, table_of}

-- whether a segment is the text: the only one, of whole words, all of them in the file
abbrev pub is_text : Segment → Loaded → Bool
is_text s loaded =
    (length loaded.code == 0) && ((s.filled == s.size) && ((s.size % 4 == 0) && not (nat_lt 65536 s.size)))

-- an image with the segment of the text
unfoldable pub with_text : List ℕ → Segment → Loaded → Result Loaded Refusal
with_text file s loaded =
    if is_text s loaded then Ok (record loaded { code = words file s.offset (s.size / 4) })
    else Err (NoRoom s.address)

-- bytes with others written over them, from a place on
abbrev pub overlaid : List ℕ → ℕ → List ℕ → List ℕ
overlaid below at bytes = take at below ++ (bytes ++ drop (at + length bytes) below)

-- An image with a segment of data. The bytes that the file does not have keep what was there: 0, or what an earlier
-- segment wrote.
unfoldable pub with_data : List ℕ → Segment → Loaded → Result Loaded Refusal
with_data file s loaded =
    if nat_lt data_size (s.address + s.size) || nat_lt s.size s.filled then Err (NoRoom s.address)
    else Ok (record loaded {
      bytes = overlaid loaded.bytes s.address (slice_range file s.offset (s.offset + s.filled));
    })

-- whether a segment is loaded and not empty
abbrev pub counts : Segment → Bool
counts s = (s.kind == 1) && not (s.size == 0)

-- an image with one more segment
unfoldable pub placed : List ℕ → Segment → Loaded → Result Loaded Refusal
placed file s loaded =
    if not (counts s) then Ok loaded
    else (if nat_lt (length file) (s.offset + s.filled) then Err Cut
    else (if s.address == text_start then with_text file s loaded else with_data file s loaded))

-- an image with one more segment, unless a segment before it was refused
abbrev pub placed_behind : List ℕ → Segment → Result Loaded Refusal → Result Loaded Refusal
placed_behind file s (Ok loaded) = placed file s loaded
placed_behind file s (Err refusal) = Err refusal

-- the image of the first n segments of a table at a place of the file
unfoldable pub placed_up_to : List ℕ → ℕ → ℕ → Result Loaded Refusal
placed_up_to file at zero = Ok nothing_loaded
placed_up_to file at (suc n) = placed_behind file (segment_of file (at + 32 * n)) (placed_up_to file at n)

-- an image, unless it has no text
abbrev pub with_some_text : Result Loaded Refusal → Result Loaded Refusal
with_some_text (Ok loaded) = if length loaded.code == 0 then Err NoText else Ok loaded
with_some_text (Err refusal) = Err refusal

-- the image of a table of program headers
abbrev pub loaded_by : List ℕ → Result Table Refusal → Result Loaded Refusal
loaded_by file (Ok table) = with_some_text (placed_up_to file table.at table.count)
loaded_by file (Err refusal) = Err refusal

-- the image of a file, or the refusal
unfoldable pub loaded_from : List ℕ → Result Loaded Refusal
loaded_from file = loaded_by file (table_of file)
