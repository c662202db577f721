use Rattle.inorder.proofs.Loads.{loads_are_answered}
use Rattle.inorder.proofs.laws.loads_are_answered_right.Goals as goal

pub returns : goal.returns
returns c = λ p sizes history. loads_are_answered p sizes history
