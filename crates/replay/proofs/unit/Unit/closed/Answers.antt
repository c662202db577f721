use Rattle.std.proofs.Common.{◌≡◌, ℕ, ◌+◌, ◌<◌, Bool, true, false, eqb, eqb-true, subst, sym, refl, arith}
use Rattle.inorder.proofs.Positions.{not_eqb}
use Rattle.replay.specs.Dropping.{AreClosed}
use Rattle.replay.proofs.unit.Unit.closed.Goals as goal

pub loop-q-init : goal.loop-q-init
loop-q-init c = λ p lt. c.args.self.now.drops.closed p (omega (arith, c.first-q.ensures, lt))

pub loop-q-preserved : goal.loop-q-preserved
loop-q-preserved c = λ p lt. go p lt (eqb p c.loop-q.q) refl
  where
    go : (p : ℕ) → p < c.loop-q.q + 1 → (b : Bool) → eqb p c.loop-q.q ≡ b → AreClosed c.args.self.now.tenants.items p
    go p lt true e = subst (AreClosed c.args.self.now.tenants.items) (sym (eqb-true p c.loop-q.q e)) (c.are_closed.ensures c.if-not-are_closed.false)
    go p lt false e = let ne = not_eqb p c.loop-q.q e in c.loop-q.invariant p (omega arith)

pub returns-clause-closed : goal.returns-clause-closed
returns-clause-closed c = λ p lt. c.loop-q.invariant p (omega (arith, lt, c.loop-q-test.false))
