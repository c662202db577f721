-- The program that an executable means, and the listing that says it.
use Rattle.std.specs.Prelude.{◌≡◌, ℕ, List, length, Result, Ok, Err}
use Rattle.instructions.specs.declared.instr.Instr.{Instr}
use Rattle.instructions.specs.Programs.{Program}
use Rattle.isa.specs.Listing.{listing}
use Rattle.elf.specs.declared.refusal.Refusal.{Refusal as FileRefusal}
use Rattle.elf.specs.declared.refusal.Refusal.TheVariants as file
use Rattle.elf.specs.Images.{Loaded}
use Rattle.elf.specs.Placing.{loaded_from}
use Rattle.disassembly.specs.declared.refusal.Refusal.{Refusal}
use Rattle.disassembly.specs.declared.refusal.Refusal.TheVariants.{File, Memory}
use Rattle.disassembly.specs.Meaning.{meant_up_to}

-- the refusal of a file that is no program for this machine
abbrev pub refusal_by_file : FileRefusal → Refusal
refusal_by_file file.Memory = Memory
refusal_by_file why = File why

-- the program of these instructions, with the bytes with which its memory begins
abbrev pub with_memory : List ℕ → Result (List Instr) Refusal → Result Program Refusal
with_memory bytes (Ok code) = Ok (record { code = code; bytes = bytes })
with_memory bytes (Err refusal) = Err refusal

-- the program that the words and bytes of a loaded file mean
abbrev pub meaning_of : Loaded → Result Program Refusal
meaning_of loaded = with_memory loaded.bytes (meant_up_to loaded.code (length loaded.code))

-- the program that a file means, if the file was loaded, or else the refusal
abbrev pub program_by : Result Loaded FileRefusal → Result Program Refusal
program_by (Ok loaded) = meaning_of loaded
program_by (Err why) = Err (refusal_by_file why)

-- the program that the words and bytes of a file mean, or the refusal
abbrev pub program_in : List ℕ → Result Program Refusal
program_in file = program_by (loaded_from file)

-- parsing a listing gives exactly the program that a file means
pub record IsSaid (file text : List ℕ) : Type 0 where
  pub program : Program
  pub meant : program_in file ≡ Ok program
  pub said : listing text ≡ Ok program
