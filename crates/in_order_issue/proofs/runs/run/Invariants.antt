use Rattle.std.proofs.Common.{◌≡◌, ◌-◌, ◌*◌, ◌≤◌}
use Rattle.own_model.specs.Runs.{halves}
use Rattle.in_order_issue.specs.StandsFor.{ModelStandsForSome}
use Rattle.in_order_issue.proofs.runs.run.Given as goal

abbrev pub invariant-loop-unit : goal.invariant-loop-unit
invariant-loop-unit l =
    record {
      stands : ModelStandsForSome l.unit;
      program : l.unit.program.now ≡ l.program;
      count : l.unit.state.committed.count ≤ l.limit;
    }

abbrev pub decreases-loop-unit : goal.decreases-loop-unit
decreases-loop-unit l = 2 * l.limit - halves l.unit.state
