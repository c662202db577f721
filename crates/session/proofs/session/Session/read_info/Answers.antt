use Rattle.std.proofs.Common.{rules}
use Rattle.station.specs.Looking.{SeesInfo}
use Rattle.session.proofs.Calls.{has_grown, was_so}
use Rattle.session.proofs.session.Session.read_info.Goals as goal

pub returns-clause-stays : goal.returns-clause-stays
returns-clause-stays g c = record {
  grows = has_grown _ _ c.self.view_is _ _ _ _ c.meet.ensures.other_history c.meet-2.ensures.other_history;
  kept = search rules;
  commits = search rules;
}

pub returns-clause-reply : goal.returns-clause-reply
returns-clause-reply g c =
    was_so _ _ c.self.view_is (λ s before behind. SeesInfo s.core.program s.core.sizes behind c.args.station c.info-index.result.0 c.info-index.result.1 c.info-index.result.2) _ _ _ _
    c.meet.ensures.told c.info-index.ensures.reply c.meet-2.ensures.history.begins c.meet-2.ensures.other_told
