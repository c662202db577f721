use Rattle.inorder.proofs.Theorem.Forbidden.{squashed_stays}
use Rattle.inorder.proofs.guards.a_squashed_tenant_stays_squashed.Goals as goal

pub returns : goal.returns
returns c = λ p sizes history. squashed_stays p sizes history
