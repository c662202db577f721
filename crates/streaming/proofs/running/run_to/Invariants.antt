use Rattle.std.proofs.Common.{◌≡◌, ◌-◌}
use Rattle.one_thread.specs.Changes.{run_from}
use Rattle.one_thread.specs.StandsFor.{StandsForSome}
use Rattle.streaming.proofs.running.run_to.Given as goal

abbrev pub invariant-loop-again : goal.invariant-loop-again
invariant-loop-again g l =
    record {
      unit : StandsForSome l.unit;
      program : l.unit.program ≡ l.fn.unit.program;
      ends : run_from l.unit l.limit ≡ run_from l.fn.unit l.limit;
    }

abbrev pub decreases-loop-again : goal.decreases-loop-again
decreases-loop-again g l = l.limit - l.unit.committed.count
