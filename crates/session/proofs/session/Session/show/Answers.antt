use Rattle.std.proofs.Common.{◌≡◌, ◌∙◌, ap, rules, subst, sym}
use Rattle.back.specs.Backs.{IsSameBack, TheBack, back_state, committed_in}
use Rattle.inorder.specs.Machine.{State}
use Rattle.snapshots.specs.Snapshots.{snapshot}
use Rattle.session.specs.Sessions.{TheSession}
use Rattle.session.proofs.Backs.{new_shown, shows}
use Rattle.session.proofs.Calls.{has_seen, was_seen}
use Rattle.session.proofs.session.Session.show.Goals as goal

pub returns-in-Ok : goal.returns-in-Ok
returns-in-Ok g c =
    let old = c.self.inside.back in
    let met = c.meet.new.self in
    let new = c.show.new.self in
    let mark = c.in-Ok.mark in
    let kept = c.meet.ensures.kept in
    let is = c.in-Ok.ensures.ok in
    record {
      grows = has_seen _ _ c.self.view_is _ _ c.meet.ensures.other_history;
      says = record {
        says = was_seen _ _ c.self.view_is (λ s behind. mark.n ≡ (committed_in s.core behind).count) _ _ c.meet.ensures.told
            (c.in-Ok.ensures.mark ∙ ap (λ k. (committed_in k met.seen).count) (kept.core ∙ c.self.invariant.back_core)) c.meet.ensures.other_told;
        count = c.in-Ok.ensures.mark ∙ (ap (λ (S : State). S.count) kept.state ∙ ap (λ (s : TheSession). (back_state s.commits).count) c.self.view_is);
        shown = ap (λ (b : TheBack). b.shown) is ∙ (ap snapshot kept.state ∙ ap (λ (s : TheSession). snapshot (back_state s.commits)) c.self.view_is);
        kept = search rules;
        commits = subst (λ (s : TheSession). IsSameBack (record s.commits { shown = new.shown }) new) c.self.view_is (shows old met new kept (new_shown met new is));
      };
      kept = search rules;
    }

pub returns-in-Err : goal.returns-in-Err
returns-in-Err g c =
    let new = c.show.new.self in
    record {
      grows = has_seen _ _ c.self.view_is _ _ c.meet.ensures.other_history;
      says = record {
        mark = search rules;
        commits = subst (λ (s : TheSession). IsSameBack s.commits new) c.self.view_is
            (subst (λ (b : TheBack). IsSameBack c.self.inside.back b) (sym c.in-Err.ensures.err) c.meet.ensures.kept);
      };
      kept = search rules;
    }
