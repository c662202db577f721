use Rattle.std.proofs.Common.{rules, ap, refl, sym, ◌∙◌, arith}
use Rattle.inorder.specs.declared.history.Act.TheVariants.{Speculate}
use Rattle.inorder.specs.declared.history.Speculation.TheVariants.{Guess}
use Rattle.replay.specs.Shown.{fate_of, standing_of}
use Rattle.replay.proofs.Acted.{is_at, left_at, may_at, replaces_in}
use Rattle.replay.proofs.unit.Unit.guess.Goals as goal

pub returns-in_default-clause-err : goal.returns-in_default-clause-err
returns-in_default-clause-err c =
    is_at c.args.self.now c.args.who c.in_ok-tenant.tenant _ c.in_ok-tenant.ensures.is
    (ap standing_of c.in_ok-tenant.ensures.live, λ e. c.in_default.not-Loads (c.kind.ensures ∙ e))

pub returns-in-Busy-clause-err : goal.returns-in-Busy-clause-err
returns-in-Busy-clause-err c =
    is_at c.args.self.now c.args.who c.in_ok-tenant.tenant _ c.in_ok-tenant.ensures.is
    (ap standing_of c.in_ok-tenant.ensures.live, ap fate_of c.in-Busy.is)

pub returns-then-not-can_guess-clause-err : goal.returns-then-not-can_guess-clause-err
returns-then-not-can_guess-clause-err c = is_at c.args.self.now c.args.who c.in_ok-tenant.tenant _ c.in_ok-tenant.ensures.is (
  ap standing_of c.in_ok-tenant.ensures.live,
  λ can. let yes = c.can_guess.ensures.no can in absurd (grind (arith, yes, c.if-not-can_guess.true)),
)

pub put-requires : goal.put-requires
put-requires c =
    replaces_in c.args.self.now c.args.who c.in_ok-tenant.tenant _ c.in_ok-tenant.ensures.is c.in_ok-tenant.ensures.live refl refl refl

pub returns-clause-ok : goal.returns-clause-ok
returns-clause-ok c = may_at c.args.self.now c.args.who c.in_ok-tenant.tenant _ c.in_ok-tenant.ensures.is (record {
  small = search rules;
  live = ap standing_of c.in_ok-tenant.ensures.live;
  kind = sym c.kind.ensures ∙ c.in-Loads.is;
  fate = c.can_guess.ensures.yes c.if-not-can_guess.false;
})

pub returns-clause-done : goal.returns-clause-done
returns-clause-done c =
    left_at c.args.self.now c.args.who c.in_ok-tenant.tenant _ _ (Speculate (Guess c.args.value)) c.in_ok-tenant.ensures.is c.put.ensures.items refl
