use Rattle.std.proofs.Common.{ℕ, ◌<◌}
use Rattle.session.specs.Accounts.{IsNotFrom}
use Rattle.session.specs.Sessions.{OnlyLooked}
use Rattle.session.proofs.session.Session.producer.Given as goal

-- no link word from n stations names the tenant
abbrev pub invariant-loop-at : goal.invariant-loop-at
invariant-loop-at g l = record {
  looks : OnlyLooked l.fn.self l.self;
  none : (p : ℕ) → p < l.at → IsNotFrom l.fn.self.core l.fn.self.seen l.self.seen p l.station l.tag l.k;
}
