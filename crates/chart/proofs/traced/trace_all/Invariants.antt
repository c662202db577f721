use Rattle.chart.specs.Traced.{HasTraced, plan}
use Rattle.chart.proofs.Turns.{ahead}
use Rattle.chart.proofs.traced.trace_all.Given as goal

-- the run was traced so far
abbrev pub invariant-turns : goal.invariant-turns
invariant-turns l = HasTraced (plan l.asked l.program l.fn.style) l.traced

abbrev pub decreases-turns : goal.decreases-turns
decreases-turns l = ahead l.traced
