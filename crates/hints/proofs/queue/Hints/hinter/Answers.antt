use Rattle.hints.proofs.Moves.{admits}
use Rattle.hints.proofs.queue.Hints.hinter.Goals as goal

pub pass-requires : goal.pass-requires
pass-requires g c = admits _
