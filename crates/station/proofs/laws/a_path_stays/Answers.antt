use Rattle.station.proofs.Paths.{paths_stay}
use Rattle.station.proofs.laws.a_path_stays.Goals as goal

pub returns : goal.returns
returns c = paths_stay
