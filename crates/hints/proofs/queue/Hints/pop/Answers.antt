use Rattle.hints.proofs.Moves.{learns, takes}
use Rattle.hints.proofs.queue.Hints.pop.Goals as goal

pub try_pop_as-oldest-requires-clause-rule : goal.try_pop_as-oldest-requires-clause-rule
try_pop_as-oldest-requires-clause-rule g c = takes _ _ _

pub is_empty_as-requires-clause-rule : goal.is_empty_as-requires-clause-rule
is_empty_as-requires-clause-rule g c = learns _ _ _

pub pop_as-requires-clause-rule : goal.pop_as-requires-clause-rule
pop_as-requires-clause-rule g c = (takes _ _ _, learns _ _ _)
