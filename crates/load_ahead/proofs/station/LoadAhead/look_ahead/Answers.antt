use Rattle.std.proofs.Common.{◌+◌, ◌<◌, not, ap, ◌∙◌, arith}
use Rattle.load_ahead.proofs.Turning.{looks_on, memory_is}
use Rattle.load_ahead.proofs.station.LoadAhead.look_ahead.Goals as goal

pub loaded_ahead-self-requires : goal.loaded_ahead-self-requires
loaded_ahead-self-requires c = memory_is c.args.self.now c.requires.unit.unit c.requires.unit.stands

pub returns-then-count-limit : goal.returns-then-count-limit
returns-then-count-limit c =
    let b = c.args.self.now in
    let below : b.state.committed.count + 1 < c.args.limit = omega (arith, c.count.ensures, c.if-count-limit.true) in
    looks_on b c.args.limit below (c.is_none.ensures ∙ ap not c.if-is_none.true) c.loaded_ahead-self.result c.loaded_ahead-self.ensures
