use Rattle.events.proofs.Histories.{history_of}
use Rattle.events.proofs.law.a_log_that_is_taken_is_a_history.Goals as goal

pub returns : goal.returns
returns c = λ u v events none taken. history_of c.one_thread_unit_is_right.ensures u v events none taken
