use Rattle.std.proofs.Common.{◌≡◌, Bool, true, false, eqb, eqb-true, refl, sym, ap, ◌∙◌, subst, arith}
use Rattle.inorder.proofs.Positions.{not_eqb}
use Rattle.replay.specs.Reasons.{held, IsHeldUnaddressed}
use Rattle.replay.proofs.unit.Unit.unaddressed_before.Goals as goal

pub loop-q-preserved : goal.loop-q-preserved
loop-q-preserved c k less f = go (eqb k c.loop-q.q) refl
  where
    go : (b : Bool) → eqb k c.loop-q.q ≡ b → ⊥
    go true e =
        let here = eqb-true k c.loop-q.q e in
        let yes = c.is_unaddressed.ensures.no
        (subst (IsHeldUnaddressed c.args.self.now.program.now) (ap (held c.args.self.now.tenants.items) here ∙ sym c.kept.ensures.is) f) in
        let never = c.if-is_unaddressed.false in
        absurd (cc)
    go false e = let other = not_eqb k c.loop-q.q e in c.loop-q.invariant k (omega arith) f
