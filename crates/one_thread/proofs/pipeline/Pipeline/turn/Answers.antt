-- Each return of a turn.
use Rattle.one_thread.specs.Turns.{fields}
use Rattle.one_thread.proofs.FirstSteps.{before_turn, first_turn, nothing_turn}
use Rattle.one_thread.proofs.pipeline.Pipeline.turn.Goals as goal

pub returns-in-Some-clause-turn : goal.returns-in-Some-clause-turn
returns-in-Some-clause-turn g c =
    before_turn g.P.Predictor.Predicts g.P.Predictor.Learns (fields c.args.self.now c.args.predictor.now) c.in-Some.code c.in-Some.is

pub returns-in_default-first_step-clause-turn : goal.returns-in_default-first_step-clause-turn
returns-in_default-first_step-clause-turn g c =
    nothing_turn g.P.Predictor.Predicts g.P.Predictor.Learns (fields c.args.self.now c.args.predictor.now) c.requires.unit c.in_default.is c.in_default-first_step.ensures

pub returns-clause-turn : goal.returns-clause-turn
returns-clause-turn g c =
    first_turn g.P.Predictor.Predicts g.P.Predictor.Learns (fields c.args.self.now c.args.predictor.now) (fields c.make.new.self c.make.new.predictor) c.in-Some-first_step.step c.make.result
    c.in_default.is c.in-Some-first_step.ensures c.make.ensures.turn
