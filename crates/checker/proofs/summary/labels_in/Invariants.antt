use Rattle.std.proofs.Common.{◌≡◌, ◌+◌, ◌≤◌, length}
use Rattle.lexical.specs.Label.{labels_of}
use Rattle.checker.proofs.summary.labels_in.Given as goal

abbrev pub invariant-loop-after : goal.invariant-loop-after
invariant-loop-after l = record {
  count : l.n + length (labels_of l.rest) ≡ length (labels_of l.code);
  size : l.n + length l.rest ≤ length l.code;
}

abbrev pub decreases-loop-after : goal.decreases-loop-after
decreases-loop-after l = length l.rest
