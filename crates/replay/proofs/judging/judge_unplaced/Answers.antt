use Rattle.std.proofs.Common.{◌+◌, ap, length, refl, take, ◌∙◌, arith}
use Rattle.inorder.specs.Unit.{Sizes}
use Rattle.replay.specs.Lets.{unit_of}
use Rattle.replay.proofs.Unplaced.{legal_placed, placed_nowhere, placed_once, quiet_before, refused_placed, take_all}
use Rattle.replay.proofs.judging.judge_unplaced.Goals as goal

pub loop-n-init : goal.loop-n-init
loop-n-init c =
    let C : Sizes = record { ring = c.args.ring; queue = c.args.queue; first_tag = 1 } in
    let none = c.in_ok-unit.ensures.tenants in
    let long = ap (λ hs. length hs) none in
    record {
      placed = placed_nowhere c.args.program.now C c.in_ok-unit.unit none;
      quiet = quiet_before c.in_ok-unit.unit none;
      program = c.in_ok-unit.ensures.program;
      sizes = c.in_ok-unit.ensures.sizes;
      few = omega (arith, long);
    }

pub loop-n-preserved : goal.loop-n-preserved
loop-n-preserved c =
    let C : Sizes = record { ring = c.args.ring; queue = c.args.queue; first_tag = 1 } in
    let taken = rw c.in-Ok.is at c.in_ok-take.ensures.ok in
    let same = ap (λ p. p.now) c.in_ok-take.ensures.program in
    let leads = c.supply_all.ensures.leads in
    let long = leads.length in
    record {
      placed =
          placed_once c.args.program.now C c.loop-n.unit c.take.new.self c.supply_all.new.self c.args.steps.now c.loop-n.n
          (c.loop-n.n + 1) c.step_at.result c.loop-n.invariant.program c.loop-n.invariant.sizes refl c.step_at.ensures same
          c.in_ok-take.ensures.sizes c.loop-n.invariant.placed taken leads;
      quiet = c.supply_all.ensures.quiet;
      program = ap (λ p. p.now) leads.program ∙ same ∙ c.loop-n.invariant.program;
      sizes = leads.sizes ∙ c.in_ok-take.ensures.sizes ∙ c.loop-n.invariant.sizes;
      few = omega (arith, long, c.in_ok-take.ensures.longer, c.loop-n.invariant.few);
    }

pub returns-in-Err : goal.returns-in-Err
returns-in-Err c =
    let C : Sizes = record { ring = c.args.ring; queue = c.args.queue; first_tag = 1 } in
    refused_placed c.args.program.now C c.loop-n.unit c.args.steps.now c.loop-n.n c.step_at.result c.in-Err.reason
    c.loop-n.invariant.program c.loop-n.invariant.sizes c.step_at.ensures c.loop-n.invariant.placed c.loop-n.invariant.quiet
    (rw c.in-Err.is at c.in_ok-take.ensures.err) (rw c.in-Err.is at c.in_ok-take.ensures.why)

pub returns : goal.returns
returns c =
    let P = c.args.program.now in
    let C : Sizes = record { ring = c.args.ring; queue = c.args.queue; first_tag = 1 } in
    let steps = c.args.steps.now in
    legal_placed P C steps (take c.loop-n.n steps) (unit_of c.loop-n.unit)
    (take_all c.loop-n.n steps (omega (arith, c.loop-n-test.false))) (c.one_thread_unit_is_right.ensures P C)
    c.loop-n.invariant.placed
