use Rattle.front.proofs.LeftBehind.{recoveries_leave}
use Rattle.front.proofs.laws.a_recovery_keeps_the_older.Goals as goal

pub returns : goal.returns
returns c = recoveries_leave
