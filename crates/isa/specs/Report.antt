-- The report of a run, as bytes. Each line ends with a line feed.
use Rattle.std.specs.Prelude.{ℕ, ◌+◌, ◌/◌, ◌%◌, ◌^◌, ◌==◌, nat_lt, List, [], ◌∷◌, ◌++◌, codes, decimal, if◌then◌else◌}
use Rattle.std.specs.Int.{w32, from_le_bytes}
use Rattle.isa.specs.declared.listing.fault.FaultKind.{FaultKind}
use Rattle.isa.specs.Reading.{fault_name}
use Rattle.instructions.specs.declared.end.Ending.{Ending}
use Rattle.instructions.specs.declared.end.End.{End}
use Rattle.instructions.specs.Endings.{ending_words}
use Rattle.instructions.specs.Registers.{lo, hi}

-- the hexadecimal digit of a number below 16: 0 to 9, then a to f
abbrev pub hex_digit : ℕ → ℕ
hex_digit d = if nat_lt d 10 then 48 + d else 87 + d

-- eight hexadecimal digits, the highest first
unfoldable pub hex8 : ℕ → List ℕ
hex8 n =
    hex_digit (n / 16 ^ 7 % 16) ∷ hex_digit (n / 16 ^ 6 % 16)
    ∷ hex_digit (n / 16 ^ 5 % 16) ∷ hex_digit (n / 16 ^ 4 % 16)
    ∷ hex_digit (n / 16 ^ 3 % 16) ∷ hex_digit (n / 16 ^ 2 % 16)
    ∷ hex_digit (n / 16 % 16) ∷ hex_digit (n % 16) ∷ []

-- a word, as it stands in a report
abbrev pub hexadecimal : ℕ → List ℕ
hexadecimal n = codes "0x" ++ hex8 n

-- a line feed
abbrev pub newline : List ℕ
newline = 10 ∷ []

-- the name of register r in a report
abbrev pub register_name : ℕ → List ℕ
register_name r =
    if r == lo then codes "lo" else if r == hi then codes "hi" else codes "r" ++ decimal r

-- the line of register r
abbrev pub register_line : ℕ → ℕ → List ℕ
register_line r value = register_name r ++ (codes " " ++ (hexadecimal value ++ newline))

-- a line for each register, from number r on, that is not 0: the general ones, LO, and HI
abbrev pub register_lines : ℕ → List ℕ → List ℕ
register_lines r [] = []
register_lines r (v ∷ vs) = (if v == 0 then [] else register_line r v) ++ register_lines (r + 1) vs

-- the line of the word at an address
abbrev pub memory_line : ℕ → ℕ → List ℕ
memory_line address value =
    codes "m " ++ (hexadecimal address ++ (codes " " ++ (hexadecimal value ++ newline)))

-- the line of the word of four bytes at an address, if it is not 0
abbrev pub word_line : ℕ → List ℕ → List ℕ
word_line address word =
    let value = from_le_bytes w32 word in if value == 0 then [] else memory_line address value

-- a line for each word of data memory, from an address on, that is not 0
abbrev pub memory_lines : ℕ → List ℕ → List ℕ
memory_lines address (a ∷ b ∷ c ∷ d ∷ bs) =
    word_line address (a ∷ b ∷ c ∷ d ∷ []) ++ memory_lines (address + 4) bs
memory_lines address _ = []

-- the lines of the ending, the count and the pc
abbrev pub head_lines : Ending → (count pc : ℕ) → List ℕ
head_lines ending count pc =
    ending_words ending
    ++ (codes "\ncount " ++ (decimal count ++ (codes "\npc " ++ (hexadecimal pc ++ newline))))

-- the report of a run: its ending, and the state after it
abbrev pub report : Ending → (count pc : ℕ) → (registers memory : List ℕ) → List ℕ
report ending count pc registers memory =
    head_lines ending count pc ++ (register_lines 0 registers ++ memory_lines 0 memory)

-- the report of the end of a run
abbrev pub report_of : End → List ℕ
report_of e = report e.outcome e.n e.pc e.registers e.memory.items

-- the line of a fault of a listing, in place of a report
abbrev pub fault_line : (line : ℕ) → FaultKind → List ℕ
fault_line line kind =
    codes "fault line " ++ (decimal line ++ (codes " " ++ (fault_name kind ++ newline)))
