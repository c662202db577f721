use Rattle.station.proofs.Holding.{holds_claimed, holds_finished, holds_on, holds_seen}
use Rattle.station.proofs.laws.jobs_stay.Goals as goal

pub returns-clause-all : goal.returns-clause-all
returns-clause-all c = holds_on

pub returns-clause-seen : goal.returns-clause-seen
returns-clause-seen c = holds_seen

pub returns-clause-claiming : goal.returns-clause-claiming
returns-clause-claiming c = holds_claimed

pub returns-clause-finishing : goal.returns-clause-finishing
returns-clause-finishing c = holds_finished
