use Rattle.back.proofs.ScanSteps.{IsScanned}
use Rattle.back.proofs.refresh.scan.Given as goal

-- the stations before this one were tried
abbrev pub invariant-loop-at : goal.invariant-loop-at
invariant-loop-at l = IsScanned l.core l.fn.seat l.seat l.head l.at l.blocked
