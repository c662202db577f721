use Rattle.std.proofs.Common.{subst}
use Rattle.one_thread.specs.Steps.{Makes}
use Rattle.one_thread.specs.Turns.{fields}
use Rattle.one_thread.proofs.bench.Bench.make.Goals as goal

pub returns-clause-turn : goal.returns-clause-turn
returns-clause-turn g c =
    let later = fields c.make.new.self c.make.new.predictor in
    subst (λ x. Makes g.P.Predictor.Predicts g.P.Predictor.Learns x c.args.step c.make.result later) c.self.view_is c.make.ensures.turn
