use Rattle.std.proofs.Common.{length, ◌-◌, ◌≡◌, ◌≤◌}
use Rattle.counted_io.specs.Counted.{failures_of, Takes}
use Rattle.counted_io.proofs.input.read_up_to.Given as goal

-- what was read so far was taken, and no call failed
abbrev pub invariant-reads : goal.invariant-reads
invariant-reads g l = record {
  room : length l.bytes.items ≤ l.most;
  quiet : failures_of l.reader ≡ failures_of l.fn.reader;
  taken : Takes g.R.Read.remaining l.fn.reader l.reader l.bytes.items;
}

abbrev pub decreases-reads : goal.decreases-reads
decreases-reads g l = l.most - length l.bytes.items
