use Rattle.std.proofs.Common.{rules}
use Rattle.front.specs.Recoveries.{RecoverAnswers}
use Rattle.session.proofs.Calls.{has_grown, was_so}
use Rattle.session.proofs.session.Session.recover.Goals as goal

pub returns : goal.returns
returns g c = record {
  grows = has_grown _ _ c.self.view_is _ _ _ _ c.meet.ensures.other_history c.meet-2.ensures.other_history;
  says = was_so _ _ c.self.view_is (λ s before behind. RecoverAnswers s.core.program s.core.sizes before behind c.recover-answer.result) _ _ _ _
      c.meet.ensures.told c.recover-answer.ensures.reply c.meet-2.ensures.history.begins c.meet-2.ensures.other_told;
  kept = search rules;
}
