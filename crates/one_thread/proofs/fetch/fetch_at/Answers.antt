use Rattle.std.proofs.Common.{arith}
use Rattle.std.proofs.lemmas.Grind.{common_steps}
use Rattle.one_thread.proofs.Fetching.{index_is, index_past, read_slot}
use Rattle.one_thread.proofs.fetch.fetch_at.Goals as goal

pub returns-then-code-at : goal.returns-then-code-at
returns-then-code-at c P d = grind (arith, common_steps, index_past)

pub returns : goal.returns
returns c P d = grind (arith, common_steps, read_slot, index_is)
