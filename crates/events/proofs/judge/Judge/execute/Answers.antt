use Rattle.std.proofs.Common.{refl}
use Rattle.replay.specs.declared.acting.Deed.TheVariants.{Finish}
use Rattle.replay.specs.declared.step.Step.TheVariants.{On}
use Rattle.events.specs.Told.{Only}
use Rattle.events.proofs.Follow.{executes_one, executes_then, if_err, on_ok, only_execution, refuses_executed}
use Rattle.events.proofs.judge.Judge.execute.Goals as goal

pub returns-clause-ok : goal.returns-clause-ok
returns-clause-ok c =
    on_ok c.end.result _ _
    (λ f. executes_then c.args.self.now.unit c.begin_if_open.new.self.unit c.end.new.self.unit c.args.who c.in_ok-begin_if_open.ensures.ok
    (executes_one c.begin_if_open.new.self.unit c.end.new.self.unit c.args.who _ f refl))
    c.end.ensures.ok

pub returns-clause-err : goal.returns-clause-err
returns-clause-err c =
    if_err c.end.result _ _
    (λ why r. refuses_executed c.args.self.now.unit c.begin_if_open.new.self.unit c.end.new.self.unit c.args.who why
    (Only (On c.args.who Finish)) (only_execution c.args.who (On c.args.who Finish) refl) c.in_ok-begin_if_open.ensures.ok r)
    c.end.ensures.err
