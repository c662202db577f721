use Rattle.std.proofs.Common.{Some}
use Rattle.replay.specs.declared.acting.Deed.TheVariants.{Confirm}
use Rattle.replay.specs.declared.step.Step.TheVariants.{On}
use Rattle.events.specs.Told.{IsRetiring, Only}
use Rattle.events.proofs.Follow.{confirms_later, if_err, on_ok, only_confirming, refuses_as}
use Rattle.events.proofs.judge.Judge.ready.Goals as goal

pub returns-clause-ok : goal.returns-clause-ok
returns-clause-ok c =
    on_ok c.confirm_late.result _ _ (λ f. confirms_later c.args.self.now.unit c.mend_late.new.self.unit c.confirm_late.new.self.unit c.args.who c.mend_late.ensures f)
    c.confirm_late.ensures.ok

pub returns-clause-err : goal.returns-clause-err
returns-clause-err c =
    if_err c.confirm_late.result _ _
    (λ why r. refuses_as c.args.self.now.unit c.mend_late.new.self.unit c.confirm_late.new.self.unit why
    (Only (On c.args.who Confirm)) (IsRetiring (Some c.args.who)) c.mend_late.ensures r (only_confirming c.args.who)) c.confirm_late.ensures.err
