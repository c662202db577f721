use Rattle.inorder.proofs.Theorem.Speculated.{done_is_sure}
use Rattle.inorder.proofs.speculation.a_done_load_is_sure.Goals as goal

pub returns : goal.returns
returns c = λ p sizes history. done_is_sure p sizes history
