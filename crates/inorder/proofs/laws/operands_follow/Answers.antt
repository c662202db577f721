use Rattle.inorder.proofs.OperandsShown.{operands_follow as follow}
use Rattle.inorder.proofs.laws.operands_follow.Goals as goal

pub returns : goal.returns
returns c = λ p sizes history by. follow p sizes history by
