use Rattle.station.proofs.Paths.{renewals_go_on}
use Rattle.station.proofs.laws.a_renewal_goes_on.Goals as goal

pub returns : goal.returns
returns c = renewals_go_on
