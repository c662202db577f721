use Rattle.station.proofs.ClaimGivesJob.{claims_give_jobs}
use Rattle.station.proofs.laws.a_ready_tenant_is_claimed.Goals as goal

pub returns : goal.returns
returns c = claims_give_jobs
