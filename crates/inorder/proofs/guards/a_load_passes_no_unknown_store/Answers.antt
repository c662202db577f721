use Rattle.inorder.proofs.Theorem.Forbidden.{load_waits}
use Rattle.inorder.proofs.guards.a_load_passes_no_unknown_store.Goals as goal

pub returns : goal.returns
returns c = λ p sizes history. load_waits p sizes history
