use Rattle.std.proofs.Common.{◌≡◌, ◌<◌, ◌≤◌, length}
use Rattle.streaming.specs.Departing.{ahead_to, run_in, to_do}
use Rattle.streaming.specs.Flow.{Flows}
use Rattle.streaming.proofs.rounds.round.Given as goal

abbrev pub invariant-loop-unit : goal.invariant-loop-unit
invariant-loop-unit g l =
    record {
      flow : Flows l.unit l.flow;
      full : length l.flow.ring.completed ≡ l.unit.ring;
      below : l.unit.committed.count < l.limit;
      code : l.unit.code ≡ l.fn.unit.code;
      program : l.unit.program ≡ l.fn.unit.program;
      more : l.fn.unit.committed.count ≤ l.unit.committed.count;
      ends : run_in l.unit l.flow l.limit ≡ run_in l.fn.unit l.fn.flow l.limit;
      less : ahead_to l.limit l.unit l.flow ≤ ahead_to l.limit l.fn.unit l.fn.flow;
    }

abbrev pub decreases-loop-unit : goal.decreases-loop-unit
decreases-loop-unit g l = to_do l.limit l.unit
