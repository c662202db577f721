use Rattle.inorder.proofs.GoesOn.Outlooks.{never_stuck}
use Rattle.inorder.proofs.progress.a_unit_is_never_stuck.Goals as goal

pub returns : goal.returns
returns c = λ p sizes history. never_stuck p sizes history
