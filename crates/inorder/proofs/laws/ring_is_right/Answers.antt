use Rattle.inorder.specs.Legal.{reached}
use Rattle.inorder.specs.Unit.{recent}
use Rattle.inorder.proofs.Stations.{is_ring, stands}
use Rattle.inorder.proofs.laws.ring_is_right.Goals as goal

pub returns : goal.returns
returns c = λ p sizes history allowed. is_ring sizes (recent (reached p sizes history)) (stands p sizes history allowed)
