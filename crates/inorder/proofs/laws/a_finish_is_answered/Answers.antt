use Rattle.inorder.proofs.Theorem.EachAnswered.{finish_is_answered}
use Rattle.inorder.proofs.laws.a_finish_is_answered.Goals as goal

pub returns : goal.returns
returns c = λ p sizes history. finish_is_answered p sizes history
