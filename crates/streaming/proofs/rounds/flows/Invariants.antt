use Rattle.std.proofs.Common.{◌≡◌, ◌<◌, ◌≤◌, ◌+◌, ◌-◌, ◌*◌, length}
use Rattle.streaming.specs.Departing.{run_in, to_do}
use Rattle.streaming.specs.Flow.{Flows, Reopens, in_order}
use Rattle.streaming.proofs.rounds.flows.Given as goal

abbrev pub invariant-loop-unit : goal.invariant-loop-unit
invariant-loop-unit g l =
    record {
      flow : Flows l.unit l.flow;
      reopens : Reopens (in_order l.unit l.flow) l.flow l.from;
      room : length l.flow.ring.completed < l.unit.ring;
      code : l.unit.code ≡ l.fn.unit.code;
      program : l.unit.program ≡ l.fn.unit.program;
      more : l.fn.unit.committed.count ≤ l.unit.committed.count;
      ends : run_in l.unit l.flow l.limit ≡ run_in l.fn.unit l.fn.flow l.limit;
    }

abbrev pub decreases-loop-unit : goal.decreases-loop-unit
decreases-loop-unit g l = to_do l.limit l.unit * 64 + (32 - length l.flow.ring.completed)
