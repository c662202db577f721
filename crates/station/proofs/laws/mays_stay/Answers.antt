use Rattle.station.proofs.Staying.{backs_stay, fronts_stay}
use Rattle.station.proofs.laws.mays_stay.Goals as goal

pub returns-clause-front : goal.returns-clause-front
returns-clause-front c = fronts_stay

pub returns-clause-back : goal.returns-clause-back
returns-clause-back c = backs_stay
