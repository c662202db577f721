use Rattle.std.proofs.Common.{◌≤◌}
use Rattle.session.specs.Rows.{AreLookedAt}
use Rattle.session.specs.Sessions.{OnlyLooked}
use Rattle.session.proofs.session.Session.head.Given as goal

-- n stations were looked at
abbrev pub invariant-loop-at : goal.invariant-loop-at
invariant-loop-at g l = record {
  looks : OnlyLooked l.fn.self l.self;
  looked : AreLookedAt l.fn.self.core l.fn.self.seen l.self.seen l.tail l.at l.head;
  few : l.head.free ≤ l.at;
}
