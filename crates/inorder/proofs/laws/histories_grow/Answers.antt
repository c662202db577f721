use Rattle.inorder.proofs.Commits.{grows}
use Rattle.inorder.proofs.laws.histories_grow.Goals as goal

pub returns : goal.returns
returns c = λ p sizes more history. grows p sizes more history
