use Rattle.std.proofs.Common.{◌≡◌, ◌≤◌, ◌+◌, drop, length}
use Rattle.front.specs.Queues.{memory_records}
use Rattle.front.proofs.needs.access_before.Given as goal

abbrev pub invariant-loop-j : goal.invariant-loop-j
invariant-loop-j l =
    record {
      inside : l.j ≤ length l.records;
      behind : memory_records (drop l.j l.records) + l.remaining ≡ l.younger;
    }

abbrev pub decreases-loop-j : goal.decreases-loop-j
decreases-loop-j l = l.j
