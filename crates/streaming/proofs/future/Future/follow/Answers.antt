use Rattle.std.proofs.lemmas.Grind.{common_steps}
use Rattle.std.proofs.Common.{arith}
use Rattle.streaming.proofs.Futures.{behind_none, behind_writes}
use Rattle.streaming.proofs.future.Future.follow.Goals.{then-r-ne0, else-r-ne0}
use Rattle.streaming.proofs.future.Future.follow.Goals as goal

pub returns-clause-on : goal.returns-clause-on
returns-clause-on c made is = grind (arith, common_steps, then-r-ne0, behind_writes, else-r-ne0, behind_none)
