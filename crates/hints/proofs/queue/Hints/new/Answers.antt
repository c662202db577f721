use Rattle.hints.proofs.Moves.{begins}
use Rattle.hints.proofs.queue.Hints.new.Goals as goal

pub ruled-requires-clause-rule : goal.ruled-requires-clause-rule
ruled-requires-clause-rule g c = begins _
