use Rattle.std.proofs.lemmas.Grind.{common_steps}
use Rattle.std.proofs.Common.{arith}
use Rattle.streaming.proofs.FlowStays.{all_back, taken}
use Rattle.streaming.proofs.streaming.restores.Goals as goal

pub loop-i-preserved : goal.loop-i-preserved
loop-i-preserved c = grind (arith, common_steps, taken)

pub returns-in-Some : goal.returns-in-Some
returns-in-Some c = grind (arith, common_steps, all_back)

pub returns-in_default : goal.returns-in_default
returns-in_default c = grind (arith, common_steps, all_back)
