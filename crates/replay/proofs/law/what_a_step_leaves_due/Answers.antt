use Rattle.replay.proofs.Left.{step_leaves}
use Rattle.replay.proofs.law.what_a_step_leaves_due.Goals as goal

pub returns : goal.returns
returns c = step_leaves
