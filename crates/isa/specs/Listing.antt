-- A listing: its lines, the first fault, and the program.
use Rattle.std.specs.Prelude.{ℕ, zero, suc, ◌+◌, ◌||◌, Bool, false, not, nat_lt, List, [], ◌∷◌, ◌++◌, length, map, take, slice_get, Option, Some, None, Result, Ok, Err, if◌then◌else◌}
use Rattle.std.specs.List.{flat_map, list_any}
use Rattle.std.specs.Option.{option_map, option_or, option_and_then}
use Rattle.std.specs.Map.{lookup}
use Rattle.std.specs.Str.{bytes_eq}
use Rattle.lexical.specs.Line.{lines_of, before_comment}
use Rattle.lexical.specs.Name.{is_plain_text}
use Rattle.lexical.specs.Label.{labels_of, statement_of}
use Rattle.instructions.specs.declared.instr.Instr.{Instr}
use Rattle.isa.specs.declared.listing.fault.FaultKind.{FaultKind}
use Rattle.isa.specs.declared.listing.fault.FaultKind.TheVariants.{NotAscii, DoubleLabel, TooLong, UnknownLabel}
use Rattle.instructions.specs.Programs.{Program, address}
use Rattle.isa.specs.Statement.{Parsed, Line, statement}

-- ---- one line

-- the labels of a line
abbrev pub labels : List ℕ → List (List ℕ)
labels line = labels_of (before_comment line)

-- the part of the program that a line gives, or its fault
abbrev pub read : List ℕ → Result Line FaultKind
read line = statement (statement_of (before_comment line))

-- the instructions and the bytes of a line that has no fault
abbrev pub code_in : Result Line FaultKind → List Parsed
code_in (Ok l) = l.code
code_in (Err k) = []

-- the bytes of a line that has no fault
abbrev pub bytes_in : Result Line FaultKind → List ℕ
bytes_in (Ok l) = l.bytes
bytes_in (Err k) = []

-- ---- all lines

-- the lines of a text, each a list of bytes
abbrev pub Lines : Type 0
Lines = List (List ℕ)

-- names, each with the same address
abbrev pub labels_at : ℕ → List (List ℕ) → List (List ℕ × ℕ)
labels_at a names = map (λ x. (x, a)) names

-- the labels of lines, each with the address of the next instruction, the first of which is number
-- n
unfoldable pub table : ℕ → Lines → List (List ℕ × ℕ)
table n [] = []
table n (l ∷ ls) = labels_at (address n) (labels l) ++ table (n + length (code_in (read l))) ls

-- the instructions of lines, each with the number of its line, the first of which is n
unfoldable pub numbered : ℕ → Lines → List (ℕ × Parsed)
numbered n [] = []
numbered n (l ∷ ls) = map (λ p. (n, p)) (code_in (read l)) ++ numbered (n + 1) ls

-- the bytes that lines add to data memory, in their order
unfoldable pub memory : Lines → List ℕ
memory ls = flat_map (λ l. bytes_in (read l)) ls

-- the number of instructions of lines
abbrev pub instruction_count : Lines → ℕ
instruction_count ls = length (numbered 1 ls)

-- ---- the first fault

-- whether a name stands among these
abbrev pub stands_in : List (List ℕ) → List ℕ → Bool
stands_in names name = list_any (λ x. bytes_eq x name) names

-- whether a name stands among these twice
abbrev pub stands_twice : List (List ℕ) → Bool
stands_twice [] = false
stands_twice (x ∷ xs) = stands_in xs x || stands_twice xs

-- whether one of these names stands among earlier ones, or twice among them
abbrev pub is_double : List (List ℕ) → List (List ℕ) → Bool
is_double earlier names = list_any (stands_in earlier) names || stands_twice names

-- the labels of lines, in their order
abbrev pub all_labels : Lines → List (List ℕ)
all_labels ls = flat_map labels ls

-- the fault of a statement after n instructions and m bytes of data
abbrev pub fault_of : ℕ → ℕ → Result Line FaultKind → Option FaultKind
fault_of n m (Ok l) =
    if nat_lt 16384 (n + length l.code) || nat_lt 65536 (m + length l.bytes) then Some TooLong
    else None
fault_of n m (Err k) = Some k

-- the first fault of a line, after the lines before it
unfoldable pub fault_in : Lines → List ℕ → Option FaultKind
fault_in before line =
    if not (is_plain_text (before_comment line)) then Some NotAscii
    else (if is_double (all_labels before) (labels line) then Some DoubleLabel
    else fault_of (instruction_count before) (length (memory before)) (read line))

-- the fault of line n, counted from 1
abbrev pub fault_of_line : Lines → ℕ → Option FaultKind
fault_of_line ls zero = None
fault_of_line ls (suc n) = option_and_then (fault_in (take n ls)) (slice_get ls n)

-- the first of lines 1 to n that has a fault, and its fault
abbrev pub first_fault_to : Lines → ℕ → Option (ℕ × FaultKind)
first_fault_to ls zero = None
first_fault_to ls (suc n) =
    option_or (first_fault_to ls n) (option_map (λ kind. (suc n, kind)) (fault_of_line ls (suc n)))

-- the first line that has a fault, and its fault
unfoldable pub first_fault : Lines → Option (ℕ × FaultKind)
first_fault ls = first_fault_to ls (length ls)

-- ---- the program

-- the address of a label that line n uses
abbrev pub known : ℕ → Option ℕ → Result ℕ (ℕ × FaultKind)
known n None = Err (n, UnknownLabel)
known n (Some a) = Ok a

-- the number of an instruction of line n: the address of its label, where it has one
abbrev pub resolve_number : List (List ℕ × ℕ) → ℕ → ℕ → Option (List ℕ) → Result ℕ (ℕ × FaultKind)
resolve_number pairs n number None = Ok number
resolve_number pairs n number (Some name) = known n (lookup (λ k. bytes_eq k name) pairs)

-- an instruction with this number, unless it is a fault
abbrev pub numbered_with : Instr → Result ℕ (ℕ × FaultKind) → Result Instr (ℕ × FaultKind)
numbered_with instr (Ok a) = Ok (record instr { number = a })
numbered_with instr (Err f) = Err f

-- an instruction with the address of its label
abbrev pub resolve : List (List ℕ × ℕ) → ℕ × Parsed → Result Instr (ℕ × FaultKind)
resolve pairs d = numbered_with d.1.instr (resolve_number pairs d.0 d.1.instr.number d.1.label)

-- an instruction before others; the first fault decides
abbrev pub before_others : Result Instr (ℕ × FaultKind) → Result (List Instr) (ℕ × FaultKind)
    → Result (List Instr) (ℕ × FaultKind)
before_others (Err f) others = Err f
before_others (Ok i) (Err f) = Err f
before_others (Ok i) (Ok is) = Ok (i ∷ is)

-- all instructions of a listing with the addresses of their labels, or the first fault
unfoldable pub resolved : List (List ℕ × ℕ) → List (ℕ × Parsed)
    → Result (List Instr) (ℕ × FaultKind)
resolved pairs [] = Ok []
resolved pairs (d ∷ ds) = before_others (resolve pairs d) (resolved pairs ds)

-- a program of these instructions with these bytes of data, unless there is a fault
abbrev pub with_bytes : List ℕ → Result (List Instr) (ℕ × FaultKind)
    → Result Program (ℕ × FaultKind)
with_bytes bytes (Ok code) = Ok (record { code = code; bytes = bytes })
with_bytes bytes (Err f) = Err f

-- Labels are looked up once no line has a fault of its own.
abbrev pub program_of : Lines → Option (ℕ × FaultKind) → Result Program (ℕ × FaultKind)
program_of ls (Some fault) = Err fault
program_of ls None = with_bytes (memory ls) (resolved (table 0 ls) (numbered 1 ls))

-- The program that a listing is, or its first fault with the number of its line, counted from 1. A
-- listing that is too long as a whole is refused at line 0.
unfoldable pub listing : List ℕ → Result Program (ℕ × FaultKind)
listing bytes =
    if nat_lt 4194304 (length bytes) then Err (0, TooLong)
    else program_of (lines_of bytes) (first_fault (lines_of bytes))

-- the number of the line of each instruction, counted from 1
abbrev pub instruction_lines : List ℕ → List ℕ
instruction_lines bytes = map (λ d. d.0) (numbered 1 (lines_of bytes))
