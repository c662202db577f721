use Rattle.std.proofs.Common.{◌≡◌, ◌∙◌, Some, sym, ap, subst}
use Rattle.instructions.specs.declared.end.Ending.{Ending}
use Rattle.inorder.specs.Machine.{State}
use Rattle.inorder.specs.Runs.{after}
use Rattle.back.specs.Backs.{TheBack}
use Rattle.back.specs.Ends.{StopsThere, ending_of}
use Rattle.back.proofs.SeatKept.{after_is, outcome_stops, plain}
use Rattle.back.proofs.backs.Back.end.Goals as goal

pub returns-clause-in_order : goal.returns-clause-in_order
returns-clause-in_order g c =
    let b = c.self.inside in
    let P = g.J.OfProgram.program in
    let k = c.self.invariant in
    let unit = plain P b.committed b.low b.head b.ended b.publisher b.seat k in
    let after_it = after_is P b.seat.core.sizes b.seat.seen k.legal b.committed b.low b.head b.ended unit in
    let stops = outcome_stops P b.seat.core.sizes b.seat.seen k.legal b.committed b.low b.head b.ended unit in
    record {
      state = subst (λ (s : State). after P s.count ≡ Some s) (sym (ap (λ (z : Ending × State). z.1) c.into_end.ensures)) after_it;
      stops = subst (λ (z : Ending × State). StopsThere P z.1.count z.0) (sym c.into_end.ensures)
          (subst (StopsThere P b.committed.count) (ap (λ (z : TheBack). ending_of z.ended) c.self.view_is ∙ sym c.outcome-outcome.ensures) stops);
    }
