-- The fields of a machine word, as MIPS I divides its 32 bits.
use Rattle.std.specs.Prelude.{ℕ, ◌/◌, ◌%◌, ◌^◌, ◌==◌, if◌then◌else◌}

-- the opcode: the upper 6 bits
abbrev pub opcode_of : ℕ → ℕ
opcode_of word = word / 2 ^ 26

-- the first register field, rs: 5 bits
abbrev pub rs_of : ℕ → ℕ
rs_of word = word / 2 ^ 21 % 32

-- the second register field, rt: 5 bits
abbrev pub rt_of : ℕ → ℕ
rt_of word = word / 2 ^ 16 % 32

-- the third register field, rd: 5 bits
abbrev pub rd_of : ℕ → ℕ
rd_of word = word / 2 ^ 11 % 32

-- the shift amount: 5 bits
abbrev pub shift_of : ℕ → ℕ
shift_of word = word / 2 ^ 6 % 32

-- the function, by which operations with opcode 0 differ: the lower 6 bits
abbrev pub funct_of : ℕ → ℕ
funct_of word = word % 64

-- an immediate: the lower 16 bits
abbrev pub immediate_of : ℕ → ℕ
immediate_of word = word % 2 ^ 16

-- the number of a word in its region: the lower 26 bits
abbrev pub region_index_of : ℕ → ℕ
region_index_of word = word % 2 ^ 26

-- the field that selects among the operations with one opcode: the function with opcode 0, rt with opcode 1
abbrev pub select_of : ℕ → ℕ
select_of word =
    if opcode_of word == 0 then funct_of word
    else (if opcode_of word == 1 then rt_of word else 0)
