use Rattle.std.proofs.Common.{refl}
use Rattle.replay.specs.declared.acting.Deed.TheVariants.{Finish}
use Rattle.replay.specs.declared.step.Step.TheVariants.{On}
use Rattle.events.specs.Told.{Only}
use Rattle.events.proofs.Follow.{if_err, refuses_state}
use Rattle.events.proofs.judge.Judge.end.Goals as goal

pub returns-clause-err : goal.returns-clause-err
returns-clause-err c =
    if_err c.has_outcome.result _ _
    (λ why t. refuses_state c.args.self.now.unit c.finish.new.self.unit (Only (On c.args.who Finish)) _ why c.in_ok-finish.ensures.ok refl t.0 t.1)
    c.has_outcome.ensures.err
