use Rattle.lockstep.proofs.TheStep.{the_step}
use Rattle.lockstep.proofs.laws.a_step_is_the_machines.Goals as goal

pub returns : goal.returns
returns c = the_step
