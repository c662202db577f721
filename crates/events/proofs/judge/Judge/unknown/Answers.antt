use Rattle.std.proofs.Common.{arith}
use Rattle.replay.proofs.Dropped.{dropped_gone}
use Rattle.events.proofs.judge.Judge.unknown.Goals as goal

pub returns-then-who-first-clause-holds : goal.returns-then-who-first-clause-holds
returns-then-who-first-clause-holds c =
    let u = c.args.self.now.unit in
    dropped_gone u.program.now u.tenants.items u.settled u.tenants.from c.args.who u.settles u.drops (omega arith)
