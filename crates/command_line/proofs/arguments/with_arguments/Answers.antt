use Rattle.command_line.proofs.Building.{one_more}
use Rattle.command_line.proofs.arguments.with_arguments.Goals as goal

pub loop-argument-preserved : goal.loop-argument-preserved
loop-argument-preserved c =
    one_more _ c.args.arguments.now c.loop-argument.argument-index _ c.loop-argument.built _ _ c.loop-argument-test.true c.loop-argument.invariant
    c.made.ensures c.in_ok-built.ensures
