use Rattle.checker.proofs.LabelsWalked.{next_labels}
use Rattle.checker.proofs.Warned.{all_warned}
use Rattle.checker.proofs.warnings.labels.push_labels.Goals as goal

pub loop-name-preserved-in_ok-push_label : goal.loop-name-preserved-in_ok-push_label
loop-name-preserved-in_ok-push_label c =
    record {
      labels =
          next_labels c.args.spot.line.now c.loop-name.rest.now c.in-Some.name.now c.in-Some.behind.now c.in-Some.ensures.label
          c.loop-name.invariant.labels;
      warned = all_warned _ _ _ _ _ _ c.loop-name.invariant.warned c.in_ok-push_label.ensures;
    }
