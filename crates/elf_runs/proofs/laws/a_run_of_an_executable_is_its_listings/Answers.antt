use Rattle.elf_runs.proofs.Words.{the_executable}
use Rattle.elf_runs.proofs.laws.a_run_of_an_executable_is_its_listings.Goals as goal

pub returns : goal.returns
returns c = the_executable
