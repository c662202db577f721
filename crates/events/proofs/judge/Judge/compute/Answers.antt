use Rattle.std.proofs.Common.{refl}
use Rattle.replay.specs.declared.acting.Deed.TheVariants.{Finish}
use Rattle.replay.specs.declared.step.Step.TheVariants.{On}
use Rattle.events.specs.Told.{Only}
use Rattle.events.proofs.Follow.{executes_none, executes_one, if_err, on_ok, only_execution, refuses_executed}
use Rattle.events.proofs.judge.Judge.compute.Goals as goal

pub returns-clause-ok : goal.returns-clause-ok
returns-clause-ok c =
    on_ok c.finish.result _ _ (λ f. executes_one c.args.self.now.unit c.finish.new.self.unit c.args.who _ f refl) c.finish.ensures.ok

pub returns-clause-err : goal.returns-clause-err
returns-clause-err c =
    if_err c.finish.result _ _
    (λ why r. refuses_executed c.args.self.now.unit c.args.self.now.unit c.finish.new.self.unit c.args.who why
    (Only (On c.args.who Finish)) (only_execution c.args.who (On c.args.who Finish) refl) (executes_none c.args.self.now.unit c.args.who) r)
    c.finish.ensures.err
