use Rattle.workers.proofs.Deeds.{claim_done}
use Rattle.workers.proofs.compute.claim.Goals as goal

pub returns-clause-done : goal.returns-clause-done
returns-clause-done c = claim_done _ _ _ _ _ _ _ c.claim.ensures.reply
