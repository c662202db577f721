use Rattle.std.proofs.Common.{◌≡◌, ◌<◌, ◌≤◌, ℕ, suc}
use Rattle.one_thread.specs.Changes.{run_from}
use Rattle.one_thread.specs.StandsFor.{StandsForSome}
use Rattle.one_thread.proofs.Ends.{left}
use Rattle.streaming.proofs.running.retire_one.Given as goal

abbrev pub invariant-loop-unit : goal.invariant-loop-unit
invariant-loop-unit g l =
    record {
      unit : StandsForSome l.unit;
      program : l.unit.program ≡ l.fn.unit.program;
      more : l.fn.unit.committed.count ≤ l.unit.committed.count;
      ends : (limit : ℕ) → l.fn.unit.committed.count < limit → run_from l.unit limit ≡ run_from l.fn.unit limit;
    }

abbrev pub decreases-loop-unit : goal.decreases-loop-unit
decreases-loop-unit g l = left (suc l.fn.unit.committed.count) l.unit
