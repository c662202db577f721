use Rattle.std.proofs.Common.{◌+◌, [], ◌∷◌, ap, subst, IfSome}
use Rattle.events.specs.declared.judge.Judge.{Judge}
use Rattle.events.specs.declared.verdict.Verdict.TheVariants.{Refused}
use Rattle.events.specs.Items.{Judges}
use Rattle.events.specs.Text.{IsRead, IsVerdict}
use Rattle.events.proofs.InTurn.{err_so, ok_so}
use Rattle.events.proofs.Verdicts.{begins, event_read, judged_more, legal_verdict, nothing_read, refused_verdict, unread_verdict, verdict_is}
use Rattle.events.proofs.text.verdict_on.Goals as goal
use Rattle.events.proofs.text.verdict_on.Goals.{in-Event+in_ok-take-in-Event+in-Err, in-End+in_ok-verdict-in-End, in-Unread+in_ok-verdict-in-Unread}

pub loop-number-init : goal.loop-number-init
loop-number-init g c =
    begins c.args.issue (g.L.Read.remaining c.args.log.now) c.args.judge.unit c.new-held.result.judge.unit c.new-held.result.waiting.items
    (ap (λ (j : Judge). j.unit) c.new-held.ensures.judge) c.new-held.ensures.waits

pub loop-number-preserved-in-Nothing : goal.loop-number-preserved-in-Nothing
loop-number-preserved-in-Nothing g c =
    let at = c.loop-number in
    let left = g.L.Read.remaining in
    let read = subst (λ x. IsRead c.args.issue (at.number + 1) (left at.log) x (left c.next_said.new.log)) c.in-Nothing.is c.in_ok-next_said.ensures in
    nothing_read c.args.issue (left c.args.log.now) (left at.log) (left c.next_said.new.log) at.number c.args.judge.unit at.held.judge.unit
    at.held.waiting.items at.invariant read

pub loop-number-preserved : goal.loop-number-preserved
loop-number-preserved g c =
    let at = c.loop-number in
    let left = g.L.Read.remaining in
    let item = c.in-Event.item in
    let read = subst (λ x. IsRead c.args.issue (at.number + 1) (left at.log) x (left c.next_said.new.log)) c.in-Event.is c.in_ok-next_said.ensures in
    let judges : Judges at.held (item ∷ []) c.take.new.self = ok_so c.in_ok-take-in-Event.field-0 _ _ c.in-Ok.is c.in_ok-take-in-Event.ensures.ok in
    judged_more c.args.issue (left c.args.log.now) (left c.next_said.new.log) (at.number + 1) c.args.judge.unit (item ∷ []) at.held c.take.new.self
    (event_read c.args.issue (left c.args.log.now) (left at.log) (left c.next_said.new.log) at.number c.args.judge.unit at.held.judge.unit
    at.held.waiting.items item at.invariant read) judges

pub returns-in-loop-number : goal.returns-in-loop-number
returns-in-loop-number g c =
    let at = c.loop-number in
    let left = g.L.Read.remaining in
    let from = left c.args.log.now in
    let next = left c.next_said.new.log in
    let issue = c.args.issue in
    let u = c.args.judge.unit in
    let found = c.match-branch-2 in
    let answer : IfSome from (λ text. IsVerdict issue u text found.verdict found.held.judge.unit) = elim found.branch [
      | in-Event+in_ok-take-in-Event+in-Err w ↦
          verdict_is issue from u found.verdict (Refused w.in-Err.refused) found.held w.take.new.self w.verdict-is w.held-is
          (refused_verdict issue from next (at.number + 1) u at.held.judge.unit w.take.new.self.judge.unit _ w.in-Err.refused
          (event_read issue from (left at.log) next at.number u at.held.judge.unit at.held.waiting.items w.in-Event.item at.invariant
          (subst (λ x. IsRead issue (at.number + 1) (left at.log) x next) w.in-Event.is c.in_ok-next_said.ensures))
          (err_so w.in_ok-take-in-Event.field-0 w.in-Err.refused _ w.in-Err.is w.in_ok-take-in-Event.ensures.err))
      | in-End+in_ok-verdict-in-End w ↦
          verdict_is issue from u found.verdict w.in_ok-verdict-in-End.verdict found.held w.close.new.self w.verdict-is w.held-is
          (legal_verdict issue from (left at.log) at.number u at.held w.close.new.self w.in_ok-verdict-in-End.verdict at.invariant
          (subst (λ x. IsRead issue (at.number + 1) (left at.log) x next) w.in-End.is c.in_ok-next_said.ensures)
          w.in_ok-verdict-in-End.ensures)
      | in-Unread+in_ok-verdict-in-Unread w ↦
          verdict_is issue from u found.verdict w.in_ok-verdict-in-Unread.verdict found.held w.close-in-Unread.new.self w.verdict-is w.held-is
          (unread_verdict issue from (left at.log) next at.number w.in-Unread.at w.in-Unread.why u at.held w.close-in-Unread.new.self
          w.in_ok-verdict-in-Unread.verdict at.invariant
          (subst (λ x. IsRead issue (at.number + 1) (left at.log) x next) w.in-Unread.is c.in_ok-next_said.ensures)
          w.in_ok-verdict-in-Unread.ensures)
    ] in
    answer
