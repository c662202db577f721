use Rattle.std.proofs.Common.{rules}
use Rattle.station.specs.Looking.{SeesLink}
use Rattle.session.proofs.Calls.{has_grown, was_so}
use Rattle.session.proofs.session.Session.read_link.Goals as goal

pub returns-clause-stays : goal.returns-clause-stays
returns-clause-stays g c = record {
  grows = has_grown _ _ c.self.view_is _ _ _ _ c.meet.ensures.other_history c.meet-2.ensures.other_history;
  kept = search rules;
  commits = search rules;
}

pub returns-clause-reply : goal.returns-clause-reply
returns-clause-reply g c =
    was_so _ _ c.self.view_is (λ s before behind. SeesLink s.core.program s.core.sizes behind c.args.producer c.args.consumer c.args.k c.link-answer.result) _ _ _ _
    c.meet.ensures.told c.link-answer.ensures.reply c.meet-2.ensures.history.begins c.meet-2.ensures.other_told
