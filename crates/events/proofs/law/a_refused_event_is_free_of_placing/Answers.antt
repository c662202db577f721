use Rattle.events.proofs.Placed.{free_of_placing}
use Rattle.events.proofs.law.a_refused_event_is_free_of_placing.Goals as goal

pub returns : goal.returns
returns c = free_of_placing
