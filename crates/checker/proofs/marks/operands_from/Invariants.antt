use Rattle.std.proofs.Common.{length}
use Rattle.checker.proofs.marks.operands_from.Given as goal

abbrev pub decreases-loop-behind : goal.decreases-loop-behind
decreases-loop-behind l = length l.rest
