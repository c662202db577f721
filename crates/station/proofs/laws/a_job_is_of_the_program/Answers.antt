use Rattle.station.proofs.Jobs.{job_inside}
use Rattle.station.proofs.laws.a_job_is_of_the_program.Goals as goal

pub returns : goal.returns
returns c = job_inside
