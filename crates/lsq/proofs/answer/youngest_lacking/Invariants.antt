use Rattle.std.proofs.Common.{◌≡◌, ◌≤◌, length, take}
use Rattle.lsq.specs.LoadRule.{lacks_address, youngest}
use Rattle.lsq.proofs.answer.youngest_lacking.Given as goal

abbrev pub invariant-loop-at : goal.invariant-loop-at
invariant-loop-at l =
    (l.at ≤ length l.older) × (youngest lacks_address l.older ≡ youngest lacks_address (take l.at l.older))

abbrev pub decreases-loop-at : goal.decreases-loop-at
decreases-loop-at l = l.at
