use Rattle.inorder.specs.Legal.{reached}
use Rattle.inorder.specs.Steps.{IsNoRetiredStop}
use Rattle.inorder.proofs.Positions.{all_at}
use Rattle.inorder.proofs.laws.a_retired_stop_is_not_renewed.Goals as goal

pub returns : goal.returns
returns c = λ p sizes history by q t code is retired fate may. all_at IsNoRetiredStop (reached p sizes history).tenants may.goes_on q t is retired code fate
