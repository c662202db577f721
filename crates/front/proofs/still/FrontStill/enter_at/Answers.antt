use Rattle.std.proofs.Common.{length, refl, sym, ap, subst}
use Rattle.inorder.specs.History.{unit_of}
use Rattle.station.specs.Seats.{Caller}
use Rattle.front.specs.declared.path.base_state.Base.{Base}
use Rattle.front.specs.Stills.{GoesOnForFront, TheStillFront}
use Rattle.front.proofs.Entering.{entered}
use Rattle.front.proofs.still.FrontStill.enter_at.Goals as goal

pub invariant_of-result : goal.invariant_of-result
invariant_of-result g c =
    let v = c.self.inside.given_back.value in
    let w = c.args.seat in
    let old = c.self.inside.base in
    let goes : GoesOnForFront v.core v.seen w = subst (λ (z : TheStillFront g.row.P.Denot). GoesOnForFront z.core z.seen w) (sym c.self.view_is) c.requires.goes_on in
    let new : Base = record { registers = old.registers; pc = old.pc; half = old.half; station = c.args.station; rested = c.of-rested.result } in
    entered v w old new c.self.inside.creators.counted c.new.result c.args.program.now c.self.invariant goes c.requires.program c.what_is_seen_is_legal.ensures
    c.new.ensures.records c.new.ensures.base c.requires.next (ap (λ (z : Caller). length (unit_of z.core.program z.core.sizes z.seen).tenants) c.of-rested.ensures) refl refl refl
