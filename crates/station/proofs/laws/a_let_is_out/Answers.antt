use Rattle.station.proofs.LetIsOut.{lets_are_out}
use Rattle.station.proofs.laws.a_let_is_out.Goals as goal

pub returns : goal.returns
returns c = lets_are_out
