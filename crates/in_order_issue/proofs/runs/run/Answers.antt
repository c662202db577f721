-- The law that the run calls is cited here: the one-thread unit is right.
use Rattle.std.proofs.Common.{◌≡◌, sym, ap, ◌∙◌, subst, arith}
use Rattle.instructions.specs.declared.end.Ending.TheVariants.{Stop as ByCode}
use Rattle.own_model.proofs.Runs.{at_stop, goes_on, starts}
use Rattle.inorder.specs.Plain.{IsPlain}
use Rattle.own_model.specs.Runs.{IsInOrderEnd}
use Rattle.own_model.specs.Transitions.{StandsForSome}
use Rattle.in_order_issue.specs.StandsFor.{ModelStandsFor, one}
use Rattle.in_order_issue.proofs.runs.run.Goals as goal

pub loop-unit-init : goal.loop-unit-init
loop-unit-init c =
    let unit = c.in_ok-unit.ensures.unit in
    let none : c.in_ok-unit.unit.state.committed.count ≡ 0 = ap (λ s. s.count) unit.state in
    record { stands = starts unit; program = c.in_ok-unit.ensures.program; count = omega (arith, none) }

pub loop-unit-preserved : goal.loop-unit-preserved
loop-unit-preserved c =
    let later = c.step.new.self in
    let kept = c.loop-unit.invariant in
    let went = c.in_default.ensures in
    record {
      stands = subst (λ p. StandsForSome IsPlain p.now one (ModelStandsFor later)) (sym went.goes.1) (goes_on kept.stands went.goes.0);
      program = ap (λ p. p.now) went.goes.1 ∙ kept.program;
      count = omega (arith, c.count.ensures, went.next.count);
    }

pub returns-in-Err : goal.returns-in-Err
returns-in-Err c =
    let b = c.loop-unit.unit in
    let kept = c.loop-unit.invariant in
    let goes = c.in-Err.ensures.goes in
    subst (λ P. IsInOrderEnd P c.args.limit c.into_end.result) kept.program
    (at_stop (c.one_thread_unit_is_right.ensures b.program.now one) c.args.limit b.state.committed c.into_end.result c.in-Err.code (goes_on kept.stands goes.0)
    (omega (arith, c.count.ensures)) (c.into_end.ensures ∙ ap (λ z. (ByCode c.in-Err.code, z.state.committed)) goes.1))
