use Rattle.std.proofs.Common.{◌≡◌, ◌<◌, length, Some, eqb-true, sym, ap, ◌∙◌, subst, arith}
use Rattle.std.specs.Prelude.{slice_index}
use Rattle.inorder.specs.Committed.{with_low}
use Rattle.inorder.proofs.Basics.{read_same}
use Rattle.inorder.proofs.committed.Committed.register_ahead.Goals as goal

-- what waits is what LO holds
pub returns-in-Some : goal.returns-in-Some
returns-in-Some c =
    let registers = c.args.self.now.registers in
    let is : c.args.r ≡ 32 = eqb-true c.args.r 32 (sym c.eq.ensures ∙ c.if-eq.true) in
    let long : 32 < length registers = omega (arith, c.self.invariant.registers, ap (λ s. length s.registers) c.self.view_is) in
    subst (λ l. c.in-Some.low ≡ slice_index (with_low l registers) c.args.r) (sym c.in-Some.is)
    (sym (ap (slice_index (with_low (Some c.in-Some.low) registers)) is ∙ read_same registers 31 c.in-Some.low long))
