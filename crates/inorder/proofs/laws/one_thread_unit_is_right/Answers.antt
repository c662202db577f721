-- Legal steps reach a sound unit, and what a sound unit has committed is in order.
use Rattle.inorder.specs.Legal.{reached}
use Rattle.inorder.proofs.Follows.{in_order}
use Rattle.inorder.proofs.Kept.{sound}
use Rattle.inorder.proofs.laws.one_thread_unit_is_right.Goals as goal

pub returns : goal.returns
returns c = λ p sizes history allowed. in_order p (reached p sizes history).tenants (sound p sizes history allowed)
