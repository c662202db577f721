-- The law that the run calls is cited here: the one-thread unit is right.
use Rattle.std.proofs.Common.{◌≡◌, ℕ, sym, ap, ◌∙◌, subst, arith}
use Rattle.instructions.specs.declared.end.Ending.TheVariants.{Stop as ByCode}
use Rattle.inorder.specs.Plain.{IsPlain}
use Rattle.inorder.specs.Unit.{empty_unit}
use Rattle.own_model.proofs.Runs.{at_stop, goes_on, starts}
use Rattle.own_model.specs.Runs.{IsInOrderEnd}
use Rattle.own_model.specs.Transitions.{StandsForSome}
use Rattle.lookahead.specs.StandsFor.{LooksOn, ModelStandsFor, ModelStandsForSome, two}
use Rattle.lookahead.specs.declared.station.Lookahead.{Lookahead}
use Rattle.lookahead.proofs.Turning.{committed_is}
use Rattle.lookahead.proofs.runs.run.Goals as goal

stands : (b later : Lookahead) (limit : ℕ) → LooksOn b limit later → ModelStandsForSome b → ModelStandsForSome later
stands b later limit l u = subst (λ p. StandsForSome IsPlain p.now two (ModelStandsFor later)) (sym l.program) (goes_on u l.goes)

pub loop-unit-init : goal.loop-unit-init
loop-unit-init c =
    let unit = c.in_ok-unit.ensures in
    let none : c.in_ok-unit.unit.state.committed.count ≡ 0 = ap (λ s. s.count) (committed_is c.in_ok-unit.unit empty_unit unit.unit) in
    record { stands = starts unit.unit; program = unit.program; count = omega (arith, none); none = unit.none }

pub step-requires-clause-unit : goal.step-requires-clause-unit
step-requires-clause-unit c = stands c.loop-unit.unit c.look_ahead.new.self c.args.limit c.look_ahead.ensures c.loop-unit.invariant.stands

pub returns-in-Err : goal.returns-in-Err
returns-in-Err c =
    let b = c.look_ahead.new.self in
    let kept = c.loop-unit.invariant in
    let l = c.look_ahead.ensures in
    let room = l.room kept.none in
    let goes = c.in-Err.ensures.goes in
    subst (λ P. IsInOrderEnd P c.args.limit c.into_end.result) (ap (λ p. p.now) l.program ∙ kept.program)
    (at_stop (c.one_thread_unit_is_right.ensures b.program.now two) c.args.limit b.state.committed c.into_end.result c.in-Err.code
    (goes_on (stands c.loop-unit.unit b c.args.limit l kept.stands) goes.0) (omega (arith, room)) (c.into_end.ensures ∙ ap (λ z. (ByCode c.in-Err.code, z.state.committed)) goes.1))

pub loop-unit-preserved : goal.loop-unit-preserved
loop-unit-preserved c =
    let b = c.look_ahead.new.self in
    let later = c.step.new.self in
    let kept = c.loop-unit.invariant in
    let l = c.look_ahead.ensures in
    let room = l.room kept.none in
    let went = c.in_default.ensures in
    record {
      stands = subst (λ p. StandsForSome IsPlain p.now two (ModelStandsFor later)) (sym went.goes.1) (goes_on (stands c.loop-unit.unit b c.args.limit l kept.stands) went.goes.0);
      program = ap (λ p. p.now) went.goes.1 ∙ ap (λ p. p.now) l.program ∙ kept.program;
      count = omega (arith, room, went.next.count);
      none = went.none;
    }
