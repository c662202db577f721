use Rattle.inorder.proofs.Theorem.Speculated.{guess_stays}
use Rattle.inorder.proofs.speculation.a_guess_does_not_retire.Goals as goal

pub returns : goal.returns
returns c = λ p sizes history. guess_stays p sizes history
