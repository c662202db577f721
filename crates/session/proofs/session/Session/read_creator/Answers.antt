use Rattle.std.proofs.Common.{ℕ, rules, subst}
use Rattle.back.specs.Backs.{unit_in}
use Rattle.front.specs.Creating.{IsCreatorAnswer}
use Rattle.station.specs.Seats.{TheCore}
use Rattle.session.proofs.Calls.{has_seen, was_seen}
use Rattle.session.proofs.session.Session.read_creator.Goals as goal

pub returns-clause-stays : goal.returns-clause-stays
returns-clause-stays g c = record {
  grows = has_seen _ _ c.self.view_is _ _ c.meet.ensures.other_history;
  kept = search rules;
  commits = search rules;
}

pub returns-clause-reply : goal.returns-clause-reply
returns-clause-reply g c =
    let seen = c.meet.new.self.seen in
    let says = subst (λ (z : TheCore × ℕ). IsCreatorAnswer z.0.program (unit_in z.0 seen) z.1 c.args.register c.creator.result) (λ i. (c.meet.ensures.core i, c.meet.ensures.trained_kept i))
    c.creator.ensures in
    was_seen _ _ c.self.view_is (λ s behind. IsCreatorAnswer s.core.program (unit_in s.core behind) s.trained_upto c.args.register c.creator.result) _ _
    c.meet.ensures.told says c.meet.ensures.other_told
