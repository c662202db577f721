use Rattle.station.proofs.AfterQuestion.{questions_leave_others}
use Rattle.station.proofs.laws.a_question_leaves_the_other.Goals as goal

pub returns : goal.returns
returns c = questions_leave_others
