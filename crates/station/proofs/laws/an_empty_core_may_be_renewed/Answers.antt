use Rattle.station.proofs.Renewing.{may_renew, no_stop_stays, nobody_stays}
use Rattle.station.proofs.laws.an_empty_core_may_be_renewed.Goals as goal

pub returns-clause-nobody : goal.returns-clause-nobody
returns-clause-nobody c = nobody_stays

pub returns-clause-no_stop : goal.returns-clause-no_stop
returns-clause-no_stop c = no_stop_stays

pub returns-clause-may : goal.returns-clause-may
returns-clause-may c = may_renew
