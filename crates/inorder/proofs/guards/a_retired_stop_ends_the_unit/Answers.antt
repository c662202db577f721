use Rattle.inorder.proofs.Theorem.Forbidden.{stop_ends}
use Rattle.inorder.proofs.guards.a_retired_stop_ends_the_unit.Goals as goal

pub returns : goal.returns
returns c = λ p sizes history. stop_ends p sizes history
