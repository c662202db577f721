use Rattle.std.proofs.Common.{refl}
use Rattle.replay.specs.declared.acting.Deed.TheVariants.{Finish}
use Rattle.replay.specs.declared.step.Step.TheVariants.{On}
use Rattle.events.specs.Told.{AreExecution, Only}
use Rattle.events.proofs.Follow.{executes_one, executes_then, if_err, on_ok, only_execution, refuses_executed}
use Rattle.events.proofs.judge.Judge.complete.Goals as goal

pub returns-in-Addr-Loads-clause-ok : goal.returns-in-Addr-Loads-clause-ok
returns-in-Addr-Loads-clause-ok c =
    on_ok c.load.result _ _ (λ e. executes_then c.args.self.now.unit c.begin_if_open.new.self.unit c.load.new.self.unit c.args.who c.in_ok-begin_if_open.ensures.ok e) c.load.ensures.ok

pub returns-in-Addr-Loads-clause-err : goal.returns-in-Addr-Loads-clause-err
returns-in-Addr-Loads-clause-err c =
    if_err c.load.result _ _ (λ why r. refuses_executed c.args.self.now.unit c.begin_if_open.new.self.unit c.load.new.self.unit c.args.who why
    (AreExecution c.args.who) (λ rr a. a) c.in_ok-begin_if_open.ensures.ok r) c.load.ensures.err

pub returns-in_default-Loads : goal.returns-in_default-Loads
returns-in_default-Loads c = record {
  ok = on_ok c.complete_load.result _ _
      (λ e. executes_then c.args.self.now.unit c.begin_if_open.new.self.unit c.complete_load.new.self.unit c.args.who c.in_ok-begin_if_open.ensures.ok e) c.complete_load.ensures.ok;
  value = c.complete_load.ensures.value;
  err = if_err c.complete_load.result _ _
      (λ why r. refuses_executed c.args.self.now.unit c.begin_if_open.new.self.unit c.complete_load.new.self.unit c.args.who why
      (AreExecution c.args.who) (λ rr a. a) c.in_ok-begin_if_open.ensures.ok r) c.complete_load.ensures.err;
  denied = c.complete_load.ensures.denied;
}

pub returns-in_default-2-clause-ok : goal.returns-in_default-2-clause-ok
returns-in_default-2-clause-ok c =
    on_ok c.end-in_default-2.result _ _
    (λ f. executes_then c.args.self.now.unit c.begin_if_open.new.self.unit c.end-in_default-2.new.self.unit c.args.who c.in_ok-begin_if_open.ensures.ok
    (executes_one c.begin_if_open.new.self.unit c.end-in_default-2.new.self.unit c.args.who _ f refl)) c.end-in_default-2.ensures.ok

pub returns-in_default-2-clause-err : goal.returns-in_default-2-clause-err
returns-in_default-2-clause-err c =
    if_err c.end-in_default-2.result _ _ (λ why r. refuses_executed c.args.self.now.unit c.begin_if_open.new.self.unit c.end-in_default-2.new.self.unit c.args.who why
    (Only (On c.args.who Finish)) (only_execution c.args.who (On c.args.who Finish) refl) c.in_ok-begin_if_open.ensures.ok r) c.end-in_default-2.ensures.err

pub returns-in_default-clause-ok : goal.returns-in_default-clause-ok
returns-in_default-clause-ok c =
    on_ok c.end.result _ _
    (λ f. executes_then c.args.self.now.unit c.begin_if_open.new.self.unit c.end.new.self.unit c.args.who c.in_ok-begin_if_open.ensures.ok
    (executes_one c.begin_if_open.new.self.unit c.end.new.self.unit c.args.who _ f refl)) c.end.ensures.ok

pub returns-in_default-clause-err : goal.returns-in_default-clause-err
returns-in_default-clause-err c =
    if_err c.end.result _ _ (λ why r. refuses_executed c.args.self.now.unit c.begin_if_open.new.self.unit c.end.new.self.unit c.args.who why
    (Only (On c.args.who Finish)) (only_execution c.args.who (On c.args.who Finish) refl) c.in_ok-begin_if_open.ensures.ok r) c.end.ensures.err
