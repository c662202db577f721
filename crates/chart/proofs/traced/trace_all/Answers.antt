use Rattle.chart.proofs.Turns.{ahead_falls, of_some}
use Rattle.chart.proofs.traced.trace_all.Goals as goal

pub turns-smaller-in-Some : goal.turns-smaller-in-Some
turns-smaller-in-Some c =
    ahead_falls _ c.turns.traced c.turn.new.self c.turns.invariant _
    (of_some _ _ c.in-Some.field-0 c.in-Some.is c.in_ok-turn.ensures.turned _ c.turns.invariant)

pub turns-preserved-in-Some : goal.turns-preserved-in-Some
turns-preserved-in-Some c = (of_some _ _ c.in-Some.field-0 c.in-Some.is c.in_ok-turn.ensures.turned _ c.turns.invariant).traced
