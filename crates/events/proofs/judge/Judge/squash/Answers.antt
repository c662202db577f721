use Rattle.std.proofs.Common.{rules, ◌≡◌, ◌⊎◌, [], ◌∷◌, inr, refl}
use Rattle.std.specs.Prelude.{IfSome}
use Rattle.replay.specs.declared.step.Step.TheVariants.{On}
use Rattle.events.specs.Told.{IsSquash, Only}
use Rattle.events.proofs.Follow.{if_err, on_ok, refuses_as, squashed_one, squashes, stays}
use Rattle.events.proofs.judge.Judge.squash.Goals as goal

pub returns-clause-ok : goal.returns-clause-ok
returns-clause-ok c =
    let named : IfSome c.args.who (λ q. q ≡ c.in-Some.who) = search rules in
    on_ok c.act.result _ _
    (λ f. squashes c.args.self.now.unit c.act.new.self.unit c.args.who (On c.in-Some.who c.squashing.result) f
    (squashed_one c.args.who c.in-Some.who c.squashing.result named c.squashing.ensures (On c.in-Some.who c.squashing.result ∷ []) refl))
    c.act.ensures.ok

pub returns-clause-err : goal.returns-clause-err
returns-clause-err c =
    let named : IfSome c.args.who (λ q. q ≡ c.in-Some.who) = search rules in
    if_err c.act.result _ _
    (λ why r. refuses_as c.args.self.now.unit c.args.self.now.unit c.act.new.self.unit why (Only (On c.in-Some.who c.squashing.result))
    (λ ss. (ss ≡ []) ⊎ IsSquash c.args.who ss) (stays c.args.self.now.unit) r
    (λ rr e. inr (squashed_one c.args.who c.in-Some.who c.squashing.result named c.squashing.ensures rr e)))
    c.act.ensures.err
