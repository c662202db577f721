use Rattle.session.specs.Sessions.{MayHaveLooked}
use Rattle.session.proofs.session.Session.push_of_stations.Given as goal

-- n stations were looked at
abbrev pub invariant-loop-station : goal.invariant-loop-station
invariant-loop-station g l = MayHaveLooked l.fn.self l.self
