use Rattle.events.specs.Told.{AreExecution}
use Rattle.events.proofs.Follow.{executes_then, if_err, on_ok, refuses_executed, refuses_state}
use Rattle.events.proofs.judge.Judge.complete_load.Goals as goal

pub returns-in-Some-Addr-clause-ok : goal.returns-in-Some-Addr-clause-ok
returns-in-Some-Addr-clause-ok c =
    on_ok c.load.result _ _
    (λ e. executes_then c.args.self.now.unit c.compute.new.self.unit c.load.new.self.unit c.args.who c.in_ok-compute.ensures.ok e)
    c.load.ensures.ok

pub returns-in-Some-Addr-clause-err : goal.returns-in-Some-Addr-clause-err
returns-in-Some-Addr-clause-err c =
    if_err c.load.result _ _
    (λ why r. refuses_executed c.args.self.now.unit c.compute.new.self.unit c.load.new.self.unit c.args.who why (AreExecution c.args.who) (λ rr a. a)
    c.in_ok-compute.ensures.ok r)
    c.load.ensures.err

pub returns-in_default-clause-err : goal.returns-in_default-clause-err
returns-in_default-clause-err c =
    if_err c.has_outcome.result _ _
    (λ why t. refuses_state c.args.self.now.unit c.compute.new.self.unit (AreExecution c.args.who) c.in_ok-compute.ensures.ok.told why
    c.in_ok-compute.ensures.ok.follows c.in_ok-compute.ensures.ok.are t.0 t.1)
    c.has_outcome.ensures.err
