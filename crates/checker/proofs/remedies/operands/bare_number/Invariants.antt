use Rattle.std.proofs.Common.{length}
use Rattle.checker.proofs.remedies.operands.bare_number.Given as goal

abbrev pub decreases-loop-bare : goal.decreases-loop-bare
decreases-loop-bare l = length l.bare
