-- Steps over the words of an executable are the run of its listing.
use Rattle.std.specs.Prelude.{◌≡◌, ℕ, List, Some, Ok}
use Rattle.elf.specs.Images.{Loaded}
use Rattle.elf.specs.Placing.{loaded_from}
use Rattle.disassembly.specs.Conversion.{IsSaid}
use Rattle.inorder.specs.Machine.{start}
use Rattle.inorder.specs.Runs.{end_of}
use Rattle.lockstep.specs.Law.{end_over}

-- Of a file that loads words and bytes, and a text that parses to the program that they mean: n steps over the words, from
-- the registers 0 and these bytes, end as the program does that may make as many
abbrev pub ARunOfAnExecutable : Type 0
ARunOfAnExecutable =
    (file text : List ℕ) (loaded : Loaded) (k : ℕ) → loaded_from file ≡ Ok loaded
    → (said : IsSaid file text)
    → end_over loaded.code k (start said.program) ≡ Some (end_of said.program k)
