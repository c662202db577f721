use Rattle.std.proofs.Common.{◌∙◌, refl}
use Rattle.chart.specs.Traced.{plan}
use Rattle.chart.proofs.Turns.{has_begun}
use Rattle.chart.proofs.traced.Traced.new.Goals as goal

pub returns : goal.returns
returns c =
    let made = c.in_ok-bench.ensures in
    has_begun (plan c.args.asked.now c.args.program.now c.args.style) _ c.choose-predictor.result c.choose-predictor.ensures made.program made.ring
    made.queue made.tag made.start made.fresh made.predictor c.by_seed-order.ensures c.new-rows.ensures (c.from-limit.ensures ∙ c.limit.ensures) refl
