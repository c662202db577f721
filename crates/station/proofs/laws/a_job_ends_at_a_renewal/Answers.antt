use Rattle.station.proofs.Holding.{none_held}
use Rattle.station.proofs.laws.a_job_ends_at_a_renewal.Goals as goal

pub returns : goal.returns
returns c = none_held
