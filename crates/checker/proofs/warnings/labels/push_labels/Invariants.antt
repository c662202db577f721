use Rattle.std.proofs.Common.{length}
use Rattle.checker.specs.Warnings.{AreWarnedOf}
use Rattle.checker.proofs.LabelsWalked.{HasLabels}
use Rattle.checker.proofs.warnings.labels.push_labels.Given as goal

abbrev pub invariant-loop-name : goal.invariant-loop-name
invariant-loop-name l = record {
  labels : HasLabels l.line l.rest;
  warned : AreWarnedOf l.good l.initial.text.items l.text.items;
}

abbrev pub decreases-loop-name : goal.decreases-loop-name
decreases-loop-name l = length l.rest
