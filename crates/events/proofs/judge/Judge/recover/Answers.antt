use Rattle.std.proofs.Common.{◌⊎◌, ◌++◌, ap, inl, inr}
use Rattle.std.specs.List.{AllByRecursion}
use Rattle.replay.specs.declared.acting.Deed.TheVariants.{Mend}
use Rattle.replay.specs.declared.step.Step.TheVariants.{On}
use Rattle.events.specs.Told.{IsRecover, IsSquashAfter, Only}
use Rattle.events.proofs.Follow.{if_err, on_ok, recovers, refuses_after, refuses_as, stays}
use Rattle.events.proofs.judge.Judge.recover.Goals as goal

pub returns-in-Ok-clause-ok : goal.returns-in-Ok-clause-ok
returns-in-Ok-clause-ok c =
    on_ok c.mend.result _ _ (λ f. recovers c.args.self.now.unit c.squash_all.new.self.unit c.mend.new.self.unit c.args.who c.in-Ok.ensures.ok f) c.mend.ensures.ok

pub returns-in-Ok-clause-err : goal.returns-in-Ok-clause-err
returns-in-Ok-clause-err c =
    if_err c.mend.result _ _
    (λ why r. refuses_after c.args.self.now.unit c.squash_all.new.self.unit c.mend.new.self.unit c.in-Ok.ensures.ok.told why
    (Only (On c.args.who Mend)) (λ ss. AllByRecursion (IsSquashAfter c.args.who) ss ⊎ IsRecover c.args.who ss) c.in-Ok.ensures.ok.follows r
    (λ rr e. inr (record {
      squashes = c.in-Ok.ensures.ok.told;
      is = ap (λ xs. xs ++ c.in-Ok.ensures.ok.told) e;
      are = c.in-Ok.ensures.ok.are;
    }))) c.mend.ensures.err

pub returns-in-Err-clause-err : goal.returns-in-Err-clause-err
returns-in-Err-clause-err c =
    refuses_as c.args.self.now.unit c.args.self.now.unit c.squash_all.new.self.unit c.in-Err.why (AllByRecursion (IsSquashAfter c.args.who))
    (λ ss. AllByRecursion (IsSquashAfter c.args.who) ss ⊎ IsRecover c.args.who ss) (stays c.args.self.now.unit) c.in-Err.ensures.err (λ rr a. inl a)
