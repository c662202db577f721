use Rattle.station.proofs.Infos.{infos_elsewhere}
use Rattle.station.proofs.laws.an_info_is_the_last_tenants.Goals as goal

pub returns : goal.returns
returns c = infos_elsewhere
