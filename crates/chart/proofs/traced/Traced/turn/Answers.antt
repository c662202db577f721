use Rattle.std.proofs.Common.{arith, refl}
use Rattle.chart.specs.declared.traced.Traced.{Traced}
use Rattle.chart.proofs.Turns.{HasMade, has_turned}
use Rattle.chart.proofs.traced.Traced.turn.Goals as goal

pub returns-clause-turned : goal.returns-clause-turned
returns-clause-turned c p before =
    let new : Traced = record {
      bench = c.turn_by-answer.new.self;
      order = c.turn_by-answer.new.chooser;
      rows = c.turn.new.self;
      limit = c.args.self.now.limit;
      is_over = c.is_last-self.result;
    } in
    let made : HasMade c.args.self.now new c.turn_by-answer.result = record {
      going = c.if-self.false;
      below = omega (arith, c.count.ensures.value, c.if-self-count.false);
      some = c.count.ensures.unit;
      turned = c.turn_by-answer.ensures.turn;
      same = c.turn_by-answer.ensures.same;
      falls = c.turn_by-answer.ensures.falls;
      last = c.is_last-self.ensures;
      limit = refl;
      rows = c.in_ok-events.ensures.kept;
    } in
    has_turned p c.args.self.now new c.turn_by-answer.result made before c.in_ok-events.events.items c.in_ok-events.ensures.events
