use Rattle.station.proofs.InFlight.{claimed_are_in_flight, jobs_are_finished, jobs_stay_in_flight}
use Rattle.station.proofs.laws.a_job_is_finished.Goals as goal

pub returns-clause-claimed : goal.returns-clause-claimed
returns-clause-claimed c = claimed_are_in_flight

pub returns-clause-stays : goal.returns-clause-stays
returns-clause-stays c = jobs_stay_in_flight

pub returns-clause-finished : goal.returns-clause-finished
returns-clause-finished c = jobs_are_finished
