use Rattle.std.proofs.Common.{refl}
use Rattle.inorder.proofs.Renewing.{past_stays}
use Rattle.inorder.proofs.laws.nothing_is_past_without_a_renewal.Goals as goal

pub returns-clause-past : goal.returns-clause-past
returns-clause-past c = past_stays

pub returns-clause-counted : goal.returns-clause-counted
returns-clause-counted c = λ by h. refl
