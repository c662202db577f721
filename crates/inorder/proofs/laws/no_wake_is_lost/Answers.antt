use Rattle.inorder.proofs.Theorem.Waking.{loses_no_wake}
use Rattle.inorder.proofs.laws.no_wake_is_lost.Goals as goal

pub returns : goal.returns
returns c = λ p c history legal marked. loses_no_wake p c history legal marked
