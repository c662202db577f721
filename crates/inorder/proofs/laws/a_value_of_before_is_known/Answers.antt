use Rattle.inorder.specs.Legal.{reached}
use Rattle.inorder.proofs.Renewing.{known_of_before}
use Rattle.inorder.proofs.laws.a_value_of_before_is_known.Goals as goal

pub returns : goal.returns
returns c = λ p sizes history by. known_of_before p sizes (reached p sizes history) by
