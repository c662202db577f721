use Rattle.inorder.proofs.Theorem.Forbidden.{claimed_once}
use Rattle.inorder.proofs.guards.a_tenant_is_claimed_once.Goals as goal

pub returns : goal.returns
returns c = λ p sizes history. claimed_once p sizes history
