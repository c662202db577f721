use Rattle.inorder.proofs.Theorem.Delivered.{delivers}
use Rattle.inorder.proofs.guards.a_delivery_reaches_who_asked.Goals as goal

pub returns : goal.returns
returns c = λ p sizes history. delivers p sizes history
