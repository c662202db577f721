use Rattle.std.proofs.Common.{◌∙◌, ap, rules, sym}
use Rattle.back.specs.Backs.{committed_in}
use Rattle.session.specs.Replies.{CommitSays}
use Rattle.session.proofs.Backs.{commit_says}
use Rattle.session.proofs.Calls.{has_grown, was_so}
use Rattle.session.proofs.session.Session.retire.Goals as goal

pub returns-clause-stays : goal.returns-clause-stays
returns-clause-stays g c = record {
  grows = has_grown _ _ c.self.view_is _ _ _ _ c.meet.ensures.other_history c.meet-2.ensures.other_history;
  kept = search rules;
}

pub returns-clause-reply : goal.returns-clause-reply
returns-clause-reply g c =
    let answer = c.commit-answer.result in
    let last = c.meet-2.new.self in
    let kept = c.meet-2.ensures.kept in
    let behind = c.commit-answer.new.self.seen in
    let says = commit_says c.self.inside.back c.meet.new.self c.commit-answer.new.self last answer c.meet.ensures.kept c.meet.ensures.woken c.commit-answer.ensures.reply kept c.meet-2.ensures.woken in
    let state = kept.state ∙ ap (λ core. committed_in core behind) (sym kept.core) in
    was_so _ _ c.self.view_is (λ s before behind. CommitSays s.commits last before behind answer) _ _ _ _
    c.meet.ensures.told (record { says = says; state = state }) c.meet-2.ensures.history.begins c.meet-2.ensures.other_told
