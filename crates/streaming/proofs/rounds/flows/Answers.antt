use Rattle.std.proofs.lemmas.Grind.{common_steps}
use Rattle.std.proofs.Common.{◌≡◌, ◌<◌, refl, ap, ◌∙◌, arith}
use Rattle.streaming.specs.Departing.{run_in}
use Rattle.streaming.specs.Flow.{in_order}
use Rattle.one_thread.specs.declared.pipeline.Pipeline.{Pipeline}
use Rattle.streaming.proofs.FlowStays.{all_closed}
use Rattle.streaming.proofs.rounds.flows.Given.{Over}
use Rattle.streaming.proofs.rounds.flows.Goals.{After-enter_flow}
use Rattle.streaming.proofs.rounds.flows.Goals as goal

pub loop-unit-init : goal.loop-unit-init
loop-unit-init g c =
    record {
      flow = c.requires.flow;
      reopens = all_closed (in_order c.args.unit.now c.args.flow.now) c.args.flow.now _ c.requires.flow.flows c.len-from.ensures.value;
      room = c.requires.room;
      code = refl;
      program = refl;
      more = omega arith;
      ends = refl;
    }

pub loop-unit-preserved-then-not-fits : goal.loop-unit-preserved-then-not-fits
loop-unit-preserved-then-not-fits g c =
    let before = c.loop-unit.invariant in
    let left = c.leave_flow.ensures in
    let less : c.loop-unit.unit.committed.count < c.args.limit = omega (arith, c.loop-unit-test.true, c.count.ensures) in
    record {
      flow = left.flow;
      reopens = all_closed (in_order c.leave_flow.new.unit c.leave_flow.new.flow) c.leave_flow.new.flow _ left.flow.flows c.len-from-then-not-fits.ensures.value;
      room = left.room;
      code = left.code ∙ before.code;
      program = left.program ∙ before.program;
      more = omega (arith, left.more, before.more);
      ends = left.ends c.args.limit less ∙ before.ends;
    }

-- what enters changes no run
entered : (g : Over) (c : After-enter_flow g) → run_in c.enter_flow.new.unit c.enter_flow.new.flow c.args.limit ≡ run_in c.args.unit.now c.args.flow.now c.args.limit
entered g c = grind (arith, common_steps)

pub loop-unit-preserved-then-len-unit : goal.loop-unit-preserved-then-len-unit
loop-unit-preserved-then-len-unit g c =
    let before = c.loop-unit.invariant in
    let on = c.round.ensures in
    let rest = c.enter_flow.ensures.rest in
    let went = c.if-not-round.ensures in
    record {
      flow = went.entered;
      reopens = all_closed (in_order c.round.new.unit c.round.new.flow) c.round.new.flow _ went.entered.flows c.len-from-then-len-unit.ensures.value;
      room = went.room;
      code = on.code ∙ ap (λ (p : Pipeline). p.code) rest ∙ before.code;
      program = on.program ∙ ap (λ (p : Pipeline). p.program) rest ∙ before.program;
      more = omega (arith, on.more, ap (λ (p : Pipeline). p.committed.count) rest, before.more);
      ends = on.ends ∙ entered g (goal.at.loop-unit-preserved-then-len-unit g c).After-enter_flow;
    }
