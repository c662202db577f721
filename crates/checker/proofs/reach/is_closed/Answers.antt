use Rattle.std.proofs.Common.{rules}
use Rattle.checker.proofs.Reached.{below_and, not_in}
use Rattle.checker.proofs.reach.is_closed.Goals as goal
use Rattle.checker.proofs.reach.is_closed.Goals.{else-reached-k-via-then-reached-k+else-not-has_successors, else-reached-k-via-else-reached-k}

pub loop-k-preserved : goal.loop-k-preserved
loop-k-preserved c =
    below_and c.args.program.now c.args.reached.now c.loop-k.k c.loop-k.invariant
    (elim c.else-reached-k.branch [
      | else-reached-k-via-then-reached-k+else-not-has_successors w ↦ λ is. search rules
      | else-reached-k-via-else-reached-k w ↦ λ is. not_in c.args.reached.now c.loop-k.k w.if-reached-k.false is
    ])
