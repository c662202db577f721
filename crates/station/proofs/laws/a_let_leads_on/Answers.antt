use Rattle.station.proofs.Paths.{lets_lead}
use Rattle.station.proofs.laws.a_let_leads_on.Goals as goal

pub returns : goal.returns
returns c = lets_lead
