use Rattle.std.proofs.Common.{rules}
use Rattle.session.specs.Replies.{TurnSays}
use Rattle.session.proofs.Between.{turn_says}
use Rattle.session.proofs.Calls.{has_grown, was_so}
use Rattle.session.proofs.session.Session.dispatch.Goals as goal

pub returns-clause-stays : goal.returns-clause-stays
returns-clause-stays g c = record {
  grows = has_grown _ _ c.self.view_is _ _ _ _ c.meet.ensures.other_history c.meet-2.ensures.other_history;
  kept = search rules;
}

pub returns-clause-reply : goal.returns-clause-reply
returns-clause-reply g c =
    let core = c.self.inside.core in
    let met = c.meet.new.self in
    let turn = c.turn_by-answer in
    let says = turn_says g.P.Predictor.Predicts g.P.Predictor.Learns core.program core.sizes met.trained_upto met.seen turn.new.front.seen met.predictor
    turn.new.front.predictor c.args.given turn.result turn.ensures.reply in
    was_so _ _ c.self.view_is (λ s before behind. TurnSays s.core.program s.core.sizes c.args.given before behind turn.result) _ _ _ _
    c.meet.ensures.told says c.meet-2.ensures.history.begins c.meet-2.ensures.other_told
