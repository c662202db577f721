use Rattle.std.proofs.Common.{length, ◌-◌, ◌≡◌, ◌≤◌, take}
use Rattle.counted_io.specs.Counted.{failures_of, Gives}
use Rattle.counted_io.proofs.output.write_whole.Given as goal

-- what was written so far went out, and no call failed
abbrev pub invariant-writes : goal.invariant-writes
invariant-writes g l = record {
  in_range : l.done ≤ length l.text;
  quiet : failures_of l.writer ≡ failures_of l.fn.writer;
  sent : Gives g.W.Write.contents l.fn.writer l.writer (take l.done l.text);
}

abbrev pub decreases-writes : goal.decreases-writes
decreases-writes g l = length l.text - l.done
