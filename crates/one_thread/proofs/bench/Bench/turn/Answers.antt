use Rattle.std.proofs.Common.{subst}
use Rattle.one_thread.specs.Order.{IsTurn}
use Rattle.one_thread.specs.Turns.{fields}
use Rattle.one_thread.proofs.bench.Bench.turn.Goals as goal

pub returns-clause-turn : goal.returns-clause-turn
returns-clause-turn g c =
    let later = fields c.turn.new.self c.turn.new.predictor in
    subst (λ x. IsTurn g.P.Predictor.Predicts g.P.Predictor.Learns x c.turn.result later) c.self.view_is c.turn.ensures.turn
