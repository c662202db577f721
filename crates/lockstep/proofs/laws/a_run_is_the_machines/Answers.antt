use Rattle.lockstep.proofs.TheStep.{the_run}
use Rattle.lockstep.proofs.laws.a_run_is_the_machines.Goals as goal

pub returns : goal.returns
returns c = the_run
