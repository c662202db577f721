use Rattle.station.proofs.AfterSquash.{misses_are_recovered, misses_stay_seen, misses_stay_squashing}
use Rattle.station.proofs.laws.a_squash_goes_on.Goals as goal

pub returns-clause-seen : goal.returns-clause-seen
returns-clause-seen c = misses_stay_seen

pub returns-clause-squash : goal.returns-clause-squash
returns-clause-squash c = misses_stay_squashing

pub returns-clause-next : goal.returns-clause-next
returns-clause-next c = misses_are_recovered
