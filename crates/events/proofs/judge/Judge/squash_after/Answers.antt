use Rattle.std.proofs.Common.{[], ◌∷◌, sym, subst}
use Rattle.std.specs.List.{AllByRecursion}
use Rattle.replay.specs.declared.acting.Deed.TheVariants.{Squash}
use Rattle.replay.specs.declared.step.Step.TheVariants.{On}
use Rattle.events.specs.Told.{IsSquashAfter, Only}
use Rattle.events.proofs.Follow.{if_err, on_ok, refuses_as, stays}
use Rattle.events.proofs.judge.Judge.squash_after.Goals as goal

pub returns-clause-ok : goal.returns-clause-ok
returns-clause-ok c =
    on_ok c.act.result _ _ (λ f. record { told = On c.args.youngest Squash ∷ []; follows = f; are = (c.requires, tt) }) c.act.ensures.ok

pub returns-clause-err : goal.returns-clause-err
returns-clause-err c =
    if_err c.act.result _ _
    (λ why r. refuses_as c.args.self.now.unit c.args.self.now.unit c.act.new.self.unit why (Only (On c.args.youngest Squash))
    (AllByRecursion (IsSquashAfter c.args.who)) (stays c.args.self.now.unit) r
    (λ rr e. subst (AllByRecursion (IsSquashAfter c.args.who)) (sym e) (c.requires, tt)))
    c.act.ensures.err
