use Rattle.std.proofs.Common.{length}
use Rattle.checker.proofs.remedies.labels.label_like.Given as goal

abbrev pub decreases-loop-label : goal.decreases-loop-label
decreases-loop-label l = length l.rest
