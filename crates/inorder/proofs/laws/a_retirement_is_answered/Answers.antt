use Rattle.inorder.proofs.Theorem.EachAnswered.{retirement_is_answered}
use Rattle.inorder.proofs.laws.a_retirement_is_answered.Goals as goal

pub returns : goal.returns
returns c = λ p sizes history legal. retirement_is_answered p sizes history legal
