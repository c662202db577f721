use Rattle.std.proofs.Common.{◌+◌, ◌<◌, not, ap, ◌∙◌, arith}
use Rattle.lookahead.proofs.Turning.{looks_on}
use Rattle.lookahead.proofs.station.Lookahead.look_ahead.Goals as goal

pub returns-then-count-limit : goal.returns-then-count-limit
returns-then-count-limit c =
    let b = c.args.self.now in
    let below : b.state.committed.count + 1 < c.args.limit = omega (arith, c.count.ensures, c.if-count-limit.true) in
    looks_on b c.args.limit below (c.is_none.ensures ∙ ap not c.if-is_none.true) c.executed_early-self.result c.executed_early-self.ensures
