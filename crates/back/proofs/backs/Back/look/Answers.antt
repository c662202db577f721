use Rattle.std.proofs.Common.{[], sym, ap, ◌∙◌, subst}
use Rattle.inorder.specs.OneHistory.{Adds}
use Rattle.station.specs.Seats.{TheCore}
use Rattle.back.specs.Backs.{IsSameBack, TheBack, back_of}
use Rattle.back.proofs.Calls.{is_same}
use Rattle.back.proofs.SeatKept.{kept_by}
use Rattle.back.proofs.backs.Back.look.Goals as goal

pub invariant_of-self : goal.invariant_of-self
invariant_of-self g c =
    let b = c.self.inside in
    let core = ap (λ (s : TheBack). s.core) c.self.view_is ∙ c.requires.core in
    let adds = subst (λ (d : TheCore). Adds d.program d.sizes b.seat.by b.seat.seen c.look.new.seat.seen []) (sym core) c.look.ensures.history in
    kept_by g.J.OfProgram.program b.committed b.low b.head b.ended b.publisher b.seat c.look.new.seat [] c.self.invariant c.look.ensures.kept.core c.look.ensures.kept.by adds tt

pub returns-clause-kept : goal.returns-clause-kept
returns-clause-kept g c =
    let b = c.self.inside in
    let core = ap (λ (s : TheBack). s.core) c.self.view_is ∙ c.requires.core in
    let adds = subst (λ (d : TheCore). Adds d.program d.sizes b.seat.by b.seat.seen c.look.new.seat.seen []) (sym core) c.look.ensures.history in
    let kept = kept_by g.J.OfProgram.program b.committed b.low b.head b.ended b.publisher b.seat c.look.new.seat [] c.self.invariant c.look.ensures.kept.core c.look.ensures.kept.by adds tt in
    subst (λ old. IsSameBack old (back_of c.look.new.seat b.ended b.publisher)) c.self.view_is
    (is_same g.J.OfProgram.program b.committed b.low b.head b.ended b.publisher b.seat c.look.new.seat c.self.invariant kept c.look.ensures.kept.core c.look.ensures.kept.by)
