use Rattle.std.proofs.lemmas.Grind.{common_steps}
use Rattle.std.proofs.Common.{arith}
use Rattle.one_thread.proofs.Entries.{same_entries}
use Rattle.one_thread.proofs.memory_port.value_at.Goals as goal

pub returns : goal.returns
returns c = grind (arith, common_steps, same_entries)
