use Rattle.inorder.specs.Legal.{reached}
use Rattle.inorder.proofs.Renewing.{begins_again}
use Rattle.inorder.proofs.laws.a_renewal_begins_again.Goals as goal

pub returns : goal.returns
returns c = λ p sizes history by. begins_again p sizes (reached p sizes history) by
