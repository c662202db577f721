use Rattle.std.proofs.Common.{◌≡◌, ◌-◌, ◌*◌, ◌≤◌, None}
use Rattle.own_model.specs.Runs.{halves}
use Rattle.load_ahead.specs.StandsFor.{ModelStandsForSome}
use Rattle.load_ahead.proofs.runs.run.Given as goal

abbrev pub invariant-loop-unit : goal.invariant-loop-unit
invariant-loop-unit l =
    record {
      stands : ModelStandsForSome l.unit;
      program : l.unit.program.now ≡ l.program;
      count : l.unit.state.committed.count ≤ l.limit;
      none : l.unit.ahead ≡ None;
    }

abbrev pub decreases-loop-unit : goal.decreases-loop-unit
decreases-loop-unit l = 2 * l.limit - halves l.unit.state
