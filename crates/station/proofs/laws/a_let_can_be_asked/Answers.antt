use Rattle.station.proofs.AfterLet.{lets_are_asked}
use Rattle.station.proofs.laws.a_let_can_be_asked.Goals as goal

pub returns : goal.returns
returns c = lets_are_asked
