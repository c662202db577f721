use Rattle.inorder.proofs.Theorem.Speculated.{nobody_speculates}
use Rattle.inorder.proofs.speculation.nobody_of_a_shared_unit_speculates.Goals as goal

pub returns : goal.returns
returns c = λ p sizes history. nobody_speculates p sizes history
