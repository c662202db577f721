use Rattle.events.proofs.Follow.{if_err, refuses_state}
use Rattle.events.specs.Told.{AreExecution}
use Rattle.events.proofs.judge.Judge.load.Goals as goal

pub returns-clause-err : goal.returns-clause-err
returns-clause-err c =
    if_err c.has_outcome.result _ _
    (λ why t. refuses_state c.args.self.now.unit c.take_value.new.self.unit (AreExecution c.args.who) _ why
    c.in_ok-take_value.ensures.ok.follows c.in_ok-take_value.ensures.ok.are t.0 t.1)
    c.has_outcome.ensures.err
