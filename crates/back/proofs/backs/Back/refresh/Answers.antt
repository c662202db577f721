use Rattle.std.proofs.Common.{sym, ap, ◌∙◌, subst}
use Rattle.station.specs.Seats.{TheCore}
use Rattle.back.specs.Backs.{IsSameBack, TheBack, back_of}
use Rattle.back.specs.Refreshes.{RefreshAnswers}
use Rattle.back.proofs.Calls.{head_inside, is_same}
use Rattle.back.proofs.Refreshing.{is_calm}
use Rattle.back.proofs.SeatKept.{kept_by}
use Rattle.back.proofs.backs.Back.refresh.Goals as goal

pub scan-requires-clause-head : goal.scan-requires-clause-head
scan-requires-clause-head g c =
    head_inside c.self.invariant c.self.view_is c.requires.core c.ring-ring.ensures.value c.ring-ring.ensures.least

pub invariant_of-self : goal.invariant_of-self
invariant_of-self g c =
    let b = c.self.inside in
    let core = ap (λ (s : TheBack). s.core) c.self.view_is ∙ c.requires.core in
    let reply = subst (λ (d : TheCore). RefreshAnswers d b.seat.by b.seat.seen c.scan.new.seat.seen c.scan.result) (sym core) c.scan.ensures.reply in
    let calm = is_calm b.seat.core b.seat.by b.seat.seen c.scan.new.seat.seen c.scan.result reply in
    kept_by g.J.OfProgram.program b.committed b.low b.head b.ended b.publisher b.seat c.scan.new.seat calm.events c.self.invariant c.scan.ensures.kept.core c.scan.ensures.kept.by calm.adds
    calm.quiet

pub returns-clause-kept : goal.returns-clause-kept
returns-clause-kept g c =
    let b = c.self.inside in
    let core = ap (λ (s : TheBack). s.core) c.self.view_is ∙ c.requires.core in
    let reply = subst (λ (d : TheCore). RefreshAnswers d b.seat.by b.seat.seen c.scan.new.seat.seen c.scan.result) (sym core) c.scan.ensures.reply in
    let calm = is_calm b.seat.core b.seat.by b.seat.seen c.scan.new.seat.seen c.scan.result reply in
    let kept = kept_by g.J.OfProgram.program b.committed b.low b.head b.ended b.publisher b.seat c.scan.new.seat calm.events c.self.invariant c.scan.ensures.kept.core c.scan.ensures.kept.by
    calm.adds calm.quiet in
    subst (λ old. IsSameBack old (back_of c.scan.new.seat b.ended b.publisher)) c.self.view_is
    (is_same g.J.OfProgram.program b.committed b.low b.head b.ended b.publisher b.seat c.scan.new.seat c.self.invariant kept c.scan.ensures.kept.core c.scan.ensures.kept.by)
