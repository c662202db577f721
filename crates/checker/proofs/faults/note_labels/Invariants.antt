use Rattle.std.proofs.Common.{◌+◌, ◌≤◌, length}
use Rattle.lexical.specs.Label.{labels_of}
use Rattle.isa.specs.Listing.{Lines}
use Rattle.checker.specs.Keys.{AreNames}
use Rattle.checker.proofs.LabelsNoted.{AreNoted}
use Rattle.checker.proofs.faults.note_labels.Given as goal

abbrev pub invariant-loop-name : goal.invariant-loop-name
invariant-loop-name l = record {
  size : l.n + length l.rest ≤ length l.code;
  noted : (earlier : Lines) → AreNames l.fn.names earlier
      → AreNoted l.names earlier l.n (labels_of l.rest) (labels_of l.code) l.double;
}

abbrev pub decreases-loop-name : goal.decreases-loop-name
decreases-loop-name l = length l.rest
