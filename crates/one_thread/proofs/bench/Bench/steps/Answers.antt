use Rattle.std.proofs.Common.{subst}
use Rattle.one_thread.specs.Steps.{AreNextSteps}
use Rattle.one_thread.proofs.Listed.{next_all}
use Rattle.one_thread.proofs.bench.Bench.steps.Goals as goal

pub returns-in-None : goal.returns-in-None
returns-in-None g c =
    subst (λ x. AreNextSteps x.pipeline c.possible_steps.result.items) c.self.view_is
    (next_all c.self.inside.pipeline c.possible_steps.result.items c.in-None.is c.possible_steps.ensures)
