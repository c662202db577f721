use Rattle.back.proofs.Behind.{refused_are_entered, renewed_are_entered}
use Rattle.back.proofs.laws.a_back_enters_behind_a_renewal.Goals as goal

pub returns-clause-renewed : goal.returns-clause-renewed
returns-clause-renewed c = renewed_are_entered

pub returns-clause-refused : goal.returns-clause-refused
returns-clause-refused c = refused_are_entered
