use Rattle.std.proofs.Common.{arith}
use Rattle.std.proofs.lemmas.Grind.{common_steps}
use Rattle.one_thread.proofs.Leavers.{set_same}
use Rattle.one_thread.proofs.retire.leave_untold.Goals as goal

pub returns-in-None : goal.returns-in-None
returns-in-None c = grind (arith, common_steps, set_same)
