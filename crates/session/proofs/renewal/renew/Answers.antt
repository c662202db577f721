use Rattle.std.proofs.Common.{◌∙◌, List, ap, subst, sym}
use Rattle.inorder.specs.declared.history.Entry.{Entry}
use Rattle.inorder.specs.Callers.{GoesOn as HasNoStop}
use Rattle.inorder.specs.History.{unit_of}
use Rattle.back.specs.Stills.{GoesOnForBack, TheStillBack, head_at}
use Rattle.front.specs.Stills.{next_at}
use Rattle.station.specs.Renewals.{seats_of}
use Rattle.station.specs.Seats.{TheCore}
use Rattle.session.proofs.Renewing.{begun, stayed}
use Rattle.session.proofs.renewal.renew.Goals as goal

pub renew-requires-clause-goes_on : goal.renew-requires-clause-goes_on
renew-requires-clause-goes_on g c =
    let left = c.leave-back_seat.ensures in
    subst (λ (z : TheCore × List Entry). HasNoStop (unit_of z.0.program z.0.sizes z.1)) (λ i. (c.requires.stage.back_core i, sym left.seen i)) left.no_stop

pub enter_again-front-requires-clause-next : goal.enter_again-front-requires-clause-next
enter_again-front-requires-clause-next g c =
    let left = c.leave-front_seat in
    let core_is = left.ensures.core ∙ c.requires.stage.front_is in
    let may = c.a_front_enters_behind_a_renewal.ensures.refused c.args.core c.in-Err.core (seats_of left.result.0 c.leave-back_seat.result.0 c.args.all)
    (seats_of c.in-Err.front_seat c.in-Err.back_seat c.in-Err.all) core_is left.ensures.by c.in-Err.ensures.err in
    may.next ∙ (ap (λ k. next_at k left.result.0.seen) (sym core_is) ∙ left.ensures.next)

pub enter_again-back-requires-clause-goes_on : goal.enter_again-back-requires-clause-goes_on
enter_again-back-requires-clause-goes_on g c =
    let left = c.leave-back_seat in
    let core_is = left.ensures.core ∙ c.requires.stage.back_core in
    let may = c.a_back_enters_behind_a_renewal.ensures.refused c.args.core c.in-Err.core (seats_of c.leave-front_seat.result.0 left.result.0 c.args.all)
    (seats_of c.in-Err.front_seat c.in-Err.back_seat c.in-Err.all) core_is (left.ensures.by ∙ c.requires.stage.back_by) c.in-Err.ensures.err in
    let still_core = ap (λ (s : TheStillBack). s.core) left.ensures.still ∙ c.requires.stage.back_core in
    let still_seen = ap (λ (s : TheStillBack). s.seen) left.ensures.still ∙ sym left.ensures.seen in
    subst (λ (z : TheCore × List Entry). GoesOnForBack z.0 z.1 c.in-Err.back_seat) (λ i. (sym still_core i, sym still_seen i)) may.goes_on

pub enter_again-back-requires-clause-head : goal.enter_again-back-requires-clause-head
enter_again-back-requires-clause-head g c =
    let left = c.leave-back_seat in
    let core_is = left.ensures.core ∙ c.requires.stage.back_core in
    let may = c.a_back_enters_behind_a_renewal.ensures.refused c.args.core c.in-Err.core (seats_of c.leave-front_seat.result.0 left.result.0 c.args.all)
    (seats_of c.in-Err.front_seat c.in-Err.back_seat c.in-Err.all) core_is (left.ensures.by ∙ c.requires.stage.back_by) c.in-Err.ensures.err in
    may.head ∙ (ap (λ k. head_at k left.result.0.seen) (sym core_is) ∙ left.ensures.head)

pub returns-in-Ok-clause-renewed : goal.returns-in-Ok-clause-renewed
returns-in-Ok-clause-renewed g c =
    let left = c.leave-back_seat in
    begun c.args.core c.in-Ok.core (seats_of c.leave-front_seat.result.0 left.result.0 c.args.all) (seats_of c.in-Ok.front_seat c.in-Ok.back_seat c.in-Ok.all)
    c.in-Ok.ensures.ok c.args.back c.enter-back.result left.result.1 left.ensures.still c.enter-back.ensures.back c.enter-back.ensures.state
    c.enter-front.result.trained_upto c.enter-front.ensures.trained_upto

pub returns-in-Err-clause-refused : goal.returns-in-Err-clause-refused
returns-in-Err-clause-refused g c =
    let left = c.leave-back_seat in
    stayed c.args.core c.in-Err.core (seats_of c.leave-front_seat.result.0 left.result.0 c.args.all) (seats_of c.in-Err.front_seat c.in-Err.back_seat c.in-Err.all)
    c.in-Err.ensures.err c.args.back c.enter_again-back.result left.result.1 left.ensures.still c.enter_again-back.ensures.back c.enter_again-back.ensures.state
