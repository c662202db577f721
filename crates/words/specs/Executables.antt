-- The executable of a program.
use Rattle.std.specs.Prelude.{◌≡◌, ℕ, ◌-◌, List, ◌++◌, length, replicate, Ok}
use Rattle.instructions.specs.Programs.{Program}
use Rattle.disassembly.specs.Conversion.{program_in}

-- a program with all of data memory, where bytes of 0 follow its own
abbrev pub padded : Program → Program
padded P = record { code = P.code; bytes = P.bytes ++ replicate (65536 - length P.bytes) 0 }

-- a file means a program, with all of data memory
abbrev pub IsExecutableOf : Program → List ℕ → Type 0
IsExecutableOf P file = program_in file ≡ Ok (padded P)
