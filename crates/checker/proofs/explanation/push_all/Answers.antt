use Rattle.checker.proofs.Explained.{explained_next}
use Rattle.checker.proofs.explanation.push_all.Goals as goal

pub loop-fault-preserved : goal.loop-fault-preserved
loop-fault-preserved c = λ new rest.
    c.loop-fault.invariant new
    (explained_next c.args.source.file.now c.args.source.bytes.now _ _ _ new c.args.faults.now c.loop-fault.fault-index c.loop-fault-test.true
    c.in_ok-push_explanation.ensures rest)
