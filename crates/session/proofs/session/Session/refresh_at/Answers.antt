use Rattle.std.proofs.Common.{◌∙◌, rules, subst, sym}
use Rattle.back.specs.Wakings.{RefreshWakes}
use Rattle.inorder.specs.History.{back}
use Rattle.session.specs.Replies.{RefreshAtSays}
use Rattle.session.specs.declared.replies.Refreshed.{Refreshed}
use Rattle.session.proofs.Calls.{has_grown, was_so}
use Rattle.session.proofs.session.Session.refresh_at.Goals as goal

pub returns : goal.returns
returns g c =
    let core = c.self.inside.core in
    let met = c.meet.new.self in
    let done = c.refresh_at-answer.new.self in
    let told : Refreshed = record { answer = c.refresh_at-answer.result; woken = c.woken-woken.result } in
    let says : RefreshAtSays core met.by met.seen done.seen c.args.station told =
    record {
      says = c.refresh_at-answer.ensures.reply;
      was = met.woken;
      woken = subst (λ w. RefreshWakes core met.by met.seen done.seen met.woken w told.answer) (sym c.woken-woken.ensures) c.refresh_at-answer.ensures.woken;
    } in
    let by_back = subst (λ n. RefreshAtSays core n met.seen done.seen c.args.station told) (c.meet.ensures.kept.by ∙ c.self.invariant.back_by) says in
    record {
      grows = has_grown _ _ c.self.view_is _ _ _ _ c.meet.ensures.other_history c.meet-2.ensures.other_history;
      says = (
        search rules,
        was_so _ _ c.self.view_is (λ s before behind. RefreshAtSays s.core back before behind c.args.station told) _ _ _ _
            c.meet.ensures.told by_back c.meet-2.ensures.history.begins c.meet-2.ensures.other_told,
        search rules,
      );
      kept = search rules;
    }
