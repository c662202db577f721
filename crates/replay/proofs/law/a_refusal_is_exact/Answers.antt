use Rattle.replay.proofs.Exact.{refused_exactly}
use Rattle.replay.proofs.law.a_refusal_is_exact.Goals as goal

pub returns : goal.returns
returns c = refused_exactly
