use Rattle.std.proofs.Common.{Some}
use Rattle.replay.specs.declared.acting.Deed.TheVariants.{Retire}
use Rattle.replay.specs.declared.step.Step.TheVariants.{On}
use Rattle.events.specs.Told.{IsRetiring, Only}
use Rattle.events.proofs.Follow.{if_err, on_ok, only_retiring, refuses_after, retires_confirmed}
use Rattle.events.proofs.judge.Judge.leave.Goals as goal

pub returns-clause-ok : goal.returns-clause-ok
returns-clause-ok c =
    on_ok c.act.result _ _ (λ f. retires_confirmed c.args.self.now.unit c.ready.new.self.unit c.act.new.self.unit c.args.who c.in_ok-ready.ensures.ok f) c.act.ensures.ok

pub returns-clause-err : goal.returns-clause-err
returns-clause-err c =
    if_err c.act.result _ _
    (λ why r. refuses_after c.args.self.now.unit c.ready.new.self.unit c.act.new.self.unit c.in_ok-ready.ensures.ok.told why
    (Only (On c.args.who Retire)) (IsRetiring (Some c.args.who)) c.in_ok-ready.ensures.ok.follows r
    (only_retiring c.args.who c.in_ok-ready.ensures.ok.told c.in_ok-ready.ensures.ok.is)) c.act.ensures.err
