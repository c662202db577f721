use Rattle.std.proofs.Common.{[], refl, sym, ap, ◌∙◌}
use Rattle.inorder.specs.OneHistory.{Adds}
use Rattle.inorder.specs.Machine.{start}
use Rattle.station.specs.Seats.{TheCore}
use Rattle.back.proofs.Calls.{is_new, new_kept}
use Rattle.back.proofs.backs.Back.new.Goals as goal

pub invariant_of-back : goal.invariant_of-back
invariant_of-back g c =
    let P = g.J.OfProgram.program in
    let seat = c.args.seat in
    let adds : Adds seat.core.program seat.core.sizes seat.by seat.seen seat.seen [] = record {
      begins = record { more = []; is = refl };
      legal = c.what_is_seen_is_legal.ensures;
      one_table = refl;
      mine = refl;
    } in
    let program = ap (λ (d : TheCore). d.program) c.requires.core ∙ (sym c.requires.program ∙ c.requires.named) in
    new_kept P seat seat program c.a_number_is_of_its_part.ensures c.requires.fresh refl refl refl adds
    c.in-Ok.committed c.in-Ok.publisher (c.in-Ok.ensures.committed ∙ ap start c.requires.named) c.in-Ok.ensures.publisher

pub returns-in-Ok-clause-ok : goal.returns-in-Ok-clause-ok
returns-in-Ok-clause-ok g c =
    let P = g.J.OfProgram.program in
    let seat = c.args.seat in
    let adds : Adds seat.core.program seat.core.sizes seat.by seat.seen seat.seen [] = record {
      begins = record { more = []; is = refl };
      legal = c.what_is_seen_is_legal.ensures;
      one_table = refl;
      mine = refl;
    } in
    let program = ap (λ (d : TheCore). d.program) c.requires.core ∙ (sym c.requires.program ∙ c.requires.named) in
    is_new P seat seat program c.a_number_is_of_its_part.ensures c.requires.fresh refl refl refl adds
    c.in-Ok.committed c.in-Ok.publisher (c.in-Ok.ensures.committed ∙ ap start c.requires.named) c.in-Ok.ensures.publisher
