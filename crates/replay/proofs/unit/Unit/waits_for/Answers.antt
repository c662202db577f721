use Rattle.std.proofs.Common.{IsTrue, eqb, Some, ap, refl, sym, ◌∙◌, subst}
use Rattle.std.specs.Option.{option_eq}
use Rattle.std.specs.Prelude.{is_none}
use Rattle.inorder.proofs.Basics.{eqb_self}
use Rattle.replay.proofs.Broadcast.{nobody_waits, waits}
use Rattle.replay.proofs.unit.Unit.waits_for.Goals as goal

pub returns-in_default : goal.returns-in_default
returns-in_default c = λ d.
    absurd (nobody_waits c.args.self.now c.args.producer c.args.who c.args.k (λ late. sym (c.tenant.ensures.kept late) ∙ c.in_default.is) d)

pub returns-then-eq : goal.returns-then-eq
returns-then-eq c = λ d.
    let u = c.args.self.now in
    let w = waits u.program.now u.tenants.items c.args.producer c.args.who c.args.k c.in-Some.tenant c.operand-source.result
    c.in-Some.ensures.some c.operand-source.ensures d in
    subst IsTrue (sym (c.is_nothing.ensures ∙ ap is_none w.value)) refl

pub returns-else-eq : goal.returns-else-eq
returns-else-eq c = λ d.
    let u = c.args.self.now in
    let w = waits u.program.now u.tenants.items c.args.producer c.args.who c.args.k c.in-Some.tenant c.operand-source.result
    c.in-Some.ensures.some c.operand-source.ensures d in
    subst IsTrue (sym (c.eq.ensures ∙ ap (λ o. option_eq eqb o (Some c.args.producer)) w.creator ∙ eqb_self c.args.producer)) refl
