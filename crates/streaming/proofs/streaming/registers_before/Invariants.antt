use Rattle.std.proofs.Common.{◌≡◌, ◌≤◌, length, drop}
use Rattle.streaming.specs.Kept.{registers_before}
use Rattle.streaming.proofs.streaming.registers_before.Given as goal

abbrev pub invariant-loop-i : goal.invariant-loop-i
invariant-loop-i l =
    record {
      inside : l.i ≤ length l.flow.ring.completed;
      registers : l.registers ≡ registers_before l.unit.program.now (drop l.i l.flow.ring.completed) l.flow.future.values;
      all : length l.registers ≡ 34;
    }

abbrev pub decreases-loop-i : goal.decreases-loop-i
decreases-loop-i l = l.i
