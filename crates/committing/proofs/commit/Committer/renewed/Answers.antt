use Rattle.std.proofs.Common.{◌∙◌, List, ap, subst, sym}
use Rattle.inorder.specs.declared.history.Entry.{Entry}
use Rattle.inorder.specs.Callers.{GoesOn as HasNoStop}
use Rattle.inorder.specs.History.{unit_of}
use Rattle.back.specs.Stills.{BackMayEnterAgain}
use Rattle.station.specs.Renewals.{seats_of}
use Rattle.station.specs.Seats.{Caller, TheCore}
use Rattle.committing.specs.Committing.{TheCommitter}
use Rattle.committing.proofs.Committers.{refused, renewed}
use Rattle.committing.proofs.Renewed.{entered, may_again, renews_once}
use Rattle.committing.proofs.commit.Committer.renewed.Given.{Over}
use Rattle.committing.proofs.commit.Committer.renewed.Goals.{After-drop, in-Ok, in-Err}
use Rattle.committing.proofs.commit.Committer.renewed.Goals as goal

pub renew-requires-clause-goes_on : goal.renew-requires-clause-goes_on
renew-requires-clause-goes_on g c =
    let left = c.leave-seat.ensures in
    let is = ap (λ (k : TheCommitter). k.back.core) c.self.view_is ∙ c.requires.core in
    subst (λ (z : TheCore × List Entry). HasNoStop (unit_of z.0.program z.0.sizes z.1)) (λ i. (is i, sym left.seen i)) left.no_stop

-- Where the renewal was refused, the back may enter the core that it left
again : (g : Over) (c : After-drop g) → BackMayEnterAgain c.leave-seat.result.1.core c.leave-seat.result.1.seen c.in-Err.refused.3
again g c =
    let left = c.leave-seat.ensures in
    let is = ap (λ (k : TheCommitter). k.back.core) c.self.view_is ∙ c.requires.core in
    may_again {old = seats_of c.args.parts.3 c.leave-seat.result.0 c.args.parts.4} c.self.inside.back c.a_back_enters_behind_a_renewal.ensures.refused c.in-Err.ensures.err is left.core
    left.goes_on.by_is left.seen left.still

pub enter_again-requires-clause-goes_on : goal.enter_again-requires-clause-goes_on
enter_again-requires-clause-goes_on g c = (again g c).goes_on

pub enter_again-requires-clause-head : goal.enter_again-requires-clause-head
enter_again-requires-clause-head g c = (again g c).head

pub invariant_of-committer : goal.invariant_of-committer
invariant_of-committer g c =
    let left = c.leave-seat.ensures in
    let going = ap (λ (k : TheCommitter). k.back.ended) c.self.view_is ∙ c.requires.going in
    elim c.match-renew.branch [
      | in-Ok w ↦
          let is = w.in-Ok.ensures.ok in
          rw (w.back-is, w.count-is)
          (renewed c.self.invariant going (entered w.in-Ok.seat left.still w.enter.ensures.back w.enter.ensures.state) w.add.new.seat (sym left.by ∙ left.goes_on.by_is)
          (ap (λ (k : Caller). k.by) is.first.back_is)
          (renews_once {old = seats_of c.args.parts.3 c.leave-seat.result.0 c.args.parts.4} is left.seen) (w.add.ensures.of ∙ c.args.parts.1.now.counts_are) w.add.ensures.shares)
      | in-Err w ↦
          rw (w.back-is, w.count-is)
          (refused c.self.invariant going (entered w.in-Err.refused.3 left.still w.enter_again.ensures.back w.enter_again.ensures.state) {left = c.leave-seat.result.0} left.by left.seen
          w.in-Err.ensures.err.met.back)
    ]
