use Rattle.std.proofs.Common.{refl}
use Rattle.replay.specs.declared.acting.Deed.TheVariants.{Claim}
use Rattle.replay.specs.declared.step.Step.TheVariants.{On}
use Rattle.events.specs.Told.{Only}
use Rattle.events.proofs.Follow.{executes_none, if_err, only_execution, refuses_executed}
use Rattle.events.proofs.judge.Judge.begin_if_open.Goals as goal

pub returns-in-Some-Open-clause-err : goal.returns-in-Some-Open-clause-err
returns-in-Some-Open-clause-err c =
    if_err c.begin.result _ _
    (λ why r. refuses_executed c.args.self.now.unit c.args.self.now.unit c.begin.new.self.unit c.args.who why
    (Only (On c.args.who Claim)) (only_execution c.args.who (On c.args.who Claim) refl) (executes_none c.args.self.now.unit c.args.who) r)
    c.begin.ensures.err
