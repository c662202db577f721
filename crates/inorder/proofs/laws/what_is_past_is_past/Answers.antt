use Rattle.inorder.proofs.Renewing.{past}
use Rattle.inorder.proofs.laws.what_is_past_is_past.Goals as goal

pub returns : goal.returns
returns c = λ p sizes history allowed. past p sizes history allowed
