use Rattle.replay.proofs.FreeOfPlacing.{refused_freely}
use Rattle.replay.proofs.law.a_refusal_is_free_of_placing.Goals as goal

pub returns : goal.returns
returns c = refused_freely
