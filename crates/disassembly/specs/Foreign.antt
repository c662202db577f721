-- Words that are no operation of a listing, by their names in MIPS I.
use Rattle.std.specs.Prelude.{ℕ, Bool, ◌/◌, ◌==◌, ◌||◌, if◌then◌else◌}
use Rattle.encoding.specs.Fields.{opcode_of, rt_of, funct_of}
use Rattle.disassembly.specs.declared.foreign.Foreign.{Foreign}
use Rattle.disassembly.specs.declared.foreign.Foreign.TheVariants.{Syscall, Break, Bltzal, Bgezal, Lwl, Lwr, Swl, Swr, Coprocessor, Unknown}

-- the name of a word with opcode 0, by the function
abbrev pub special : ℕ → Foreign
special function =
    if function == 12 then Syscall else (if function == 13 then Break else Unknown)

-- the name of a word with opcode 1, by the field rt
abbrev pub linking : ℕ → Foreign
linking rt = if rt == 16 then Bltzal else (if rt == 17 then Bgezal else Unknown)

-- the names of operations of the coprocessors, of their loads and of their stores: four opcodes each
abbrev pub is_of_coprocessor : ℕ → Bool
is_of_coprocessor opcode = (opcode / 4 == 4) || ((opcode / 4 == 12) || (opcode / 4 == 14))

-- the name of a word with another opcode
abbrev pub other : ℕ → Foreign
other opcode =
    if opcode == 34 then Lwl
    else (if opcode == 38 then Lwr
    else (if opcode == 42 then Swl
    else (if opcode == 46 then Swr
    else (if is_of_coprocessor opcode then Coprocessor else Unknown))))

-- the name of a word that is no operation of a listing
abbrev pub foreign_of : ℕ → Foreign
foreign_of word =
    if opcode_of word == 0 then special (funct_of word)
    else (if opcode_of word == 1 then linking (rt_of word) else other (opcode_of word))
