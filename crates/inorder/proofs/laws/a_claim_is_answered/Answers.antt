use Rattle.inorder.proofs.Theorem.EachAnswered.{claim_is_answered}
use Rattle.inorder.proofs.laws.a_claim_is_answered.Goals as goal

pub returns : goal.returns
returns c = λ p sizes history. claim_is_answered p sizes history
