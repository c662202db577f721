use Rattle.inorder.proofs.Theorem.Forbidden.{miss_stays}
use Rattle.inorder.proofs.guards.a_miss_does_not_retire.Goals as goal

pub returns : goal.returns
returns c = λ p sizes history. miss_stays p sizes history
