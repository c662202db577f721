use Rattle.session.specs.Sessions.{OnlyLooked}
use Rattle.session.proofs.session.Session.queue.Given as goal

-- n stations were looked at
abbrev pub invariant-loop-at : goal.invariant-loop-at
invariant-loop-at g l = OnlyLooked l.fn.self l.self
