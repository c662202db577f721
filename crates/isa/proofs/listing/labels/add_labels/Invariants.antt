use Rattle.std.proofs.Common.{◌≡◌, ◌+◌, ◌≤◌, ℕ, List, length}
use Rattle.lexical.specs.Label.{labels_of, statement_of}
use Rattle.isa.specs.Labels.{AreHeld}
use Rattle.isa.proofs.HeldLabels.{AreAdded}
use Rattle.isa.proofs.listing.labels.add_labels.Given as goal

-- the labels so far are added, and those to come follow
abbrev pub invariant-loop-name : goal.invariant-loop-name
invariant-loop-name l = record {
  size : l.n + length l.rest ≤ length l.code;
  text : statement_of l.rest ≡ statement_of l.code;
  labels : (held : List (List ℕ × ℕ)) → AreHeld l.fn.labels held → AreAdded l.labels held l.address l.n (labels_of l.rest) (labels_of l.code);
}

abbrev pub decreases-loop-name : goal.decreases-loop-name
decreases-loop-name l = length l.rest
