use Rattle.inorder.proofs.Fated.{fates_follow as follow}
use Rattle.inorder.proofs.laws.fates_follow.Goals as goal

pub returns : goal.returns
returns c = λ p sizes history. follow p sizes history
