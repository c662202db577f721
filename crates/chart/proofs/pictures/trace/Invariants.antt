use Rattle.std.proofs.Common.{◌≡◌, false}
use Rattle.counted_io.specs.Counted.{failures_of, known_by}
use Rattle.chart.specs.Answers.{HasTextFrom, log_head}
use Rattle.chart.specs.Traced.{HasTraced, plan}
use Rattle.chart.proofs.Turns.{ahead}
use Rattle.chart.proofs.pictures.trace.Given as goal

-- the log so far was written, no call failed, and the run was traced so far
abbrev pub invariant-turns : goal.invariant-turns
invariant-turns g l = record {
  quiet : failures_of l.log ≡ failures_of l.fn.log;
  says : HasTextFrom log_head (known_by g.L.Write.contents l.fn.log) (known_by g.L.Write.contents l.log);
  traced : HasTraced (plan l.asked.run l.program (record { rows = 0; by_leave = false })) l.traced;
}

abbrev pub decreases-turns : goal.decreases-turns
decreases-turns g l = ahead l.traced
