use Rattle.inorder.proofs.Theorem.Forbidden.{restores}
use Rattle.inorder.proofs.guards.recovery_restores.Goals as goal

pub returns : goal.returns
returns c = λ p sizes history. restores p sizes history
