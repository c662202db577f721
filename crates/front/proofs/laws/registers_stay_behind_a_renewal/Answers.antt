use Rattle.front.proofs.Unchanged.{registers_stay}
use Rattle.front.proofs.laws.registers_stay_behind_a_renewal.Goals as goal

pub returns : goal.returns
returns c = registers_stay
