-- A turn by choice.
use Rattle.std.proofs.Common.{◌≡◌, ◌<◌, ◌%◌, [], length, Some, subst}
use Rattle.std.specs.Prelude.{slice_get}
use Rattle.one_thread.specs.Choices.{IsTurnBy}
use Rattle.instructions.specs.declared.stop.Stop.TheVariants.{BadPc}
use Rattle.one_thread.specs.Steps.{ArePossible, Permits, names}
use Rattle.one_thread.specs.Turns.{fields}
use Rattle.one_thread.specs.declared.bench.Turn.TheVariants.{Over}
use Rattle.one_thread.proofs.ChosenTurns.{before_by, chosen_by, none_listed, nothing_by, some_listed}
use Rattle.one_thread.proofs.Listed.{all_get, all_permitted}
use Rattle.one_thread.proofs.bench.Bench.turn_by.Goals as goal

pub returns-in-Some-clause-turn : goal.returns-in-Some-clause-turn
returns-in-Some-clause-turn g c =
    let b = fields c.self.inside.pipeline c.self.inside.predictor in
    let q = c.args.chooser.now in
    subst (λ x. IsTurnBy g.P.Predictor.Predicts g.P.Predictor.Learns g.C.Chooser.Chooses x q (Over c.in-Some.code) x q) c.self.view_is
    (before_by g.P.Predictor.Predicts g.P.Predictor.Learns g.C.Chooser.Chooses b q c.in-Some.code c.in-Some.is)

pub returns-then-is_empty-clause-turn : goal.returns-then-is_empty-clause-turn
returns-then-is_empty-clause-turn g c =
    let b = fields c.self.inside.pipeline c.self.inside.predictor in
    let q = c.args.chooser.now in
    let none : c.possible_steps-steps.result.items ≡ [] = none_listed c.possible_steps-steps.result.items c.is_empty.result c.is_empty.ensures c.if-is_empty.true in
    subst (λ x. IsTurnBy g.P.Predictor.Predicts g.P.Predictor.Learns g.C.Chooser.Chooses x q (Over BadPc) x q) c.self.view_is
    (nothing_by g.P.Predictor.Predicts g.P.Predictor.Learns g.C.Chooser.Chooses b q c.self.invariant c.in_default.is
    (subst (ArePossible b.pipeline) none c.possible_steps-steps.ensures))

pub make-requires-clause-can : goal.make-requires-clause-can
make-requires-clause-can g c =
    let b = c.self.inside.pipeline in
    let steps = c.possible_steps-steps.result.items in
    let at : slice_get steps (c.choose-choice.result % length steps) ≡ Some c.pick-step.result =
    subst (λ xs. slice_get xs (c.choose-choice.result % length xs) ≡ Some c.pick-step.result) c.as_slice-shown.ensures.value c.pick-step.ensures in
    all_get (Permits b) steps (all_permitted b steps c.possible_steps-steps.ensures) (c.choose-choice.result % length steps) c.pick-step.result at

pub returns-clause-turn : goal.returns-clause-turn
returns-clause-turn g c =
    let b = fields c.self.inside.pipeline c.self.inside.predictor in
    let q = c.args.chooser.now in
    let later = fields c.make.new.self c.make.new.predictor in
    let steps = c.possible_steps-steps.result.items in
    let some : 0 < length steps = some_listed steps c.is_empty.result c.is_empty.ensures c.if-is_empty.false in
    let at : slice_get steps (c.choose-choice.result % length steps) ≡ Some c.pick-step.result =
    subst (λ xs. slice_get xs (c.choose-choice.result % length xs) ≡ Some c.pick-step.result) c.as_slice-shown.ensures.value c.pick-step.ensures in
    let chosen = subst (λ xs. g.C.Chooser.Chooses q (names xs) c.choose-choice.result c.choose-choice.new.self) c.as_slice-shown.ensures.value c.choose-choice.ensures in
    subst (λ x. IsTurnBy g.P.Predictor.Predicts g.P.Predictor.Learns g.C.Chooser.Chooses x q c.make.result later c.choose-choice.new.self) c.self.view_is
    (chosen_by g.P.Predictor.Predicts g.P.Predictor.Learns g.C.Chooser.Chooses b later q c.choose-choice.new.self steps c.pick-step.result c.choose-choice.result c.make.result c.in_default.is
    c.possible_steps-steps.ensures chosen some at c.make.ensures.turn)
