use Rattle.inorder.proofs.Theorem.Speculated.{flush_restores}
use Rattle.inorder.proofs.speculation.a_flush_restores.Goals as goal

pub returns : goal.returns
returns c = λ p sizes history. flush_restores p sizes history
