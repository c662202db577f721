use Rattle.std.proofs.Common.{◌≡◌, sym, subst}
use Rattle.front.specs.Stills.{GoesOnForFront, TheStillFront, next_at}
use Rattle.front.proofs.Entering.{still_next}
use Rattle.front.proofs.still.FrontStill.enter_again.Goals as goal

pub enter_at-requires-clause-next : goal.enter_at-requires-clause-next
enter_at-requires-clause-next g c =
    let v = c.self.inside.given_back.value in
    let w = c.args.seat in
    let goes : GoesOnForFront v.core v.seen w = subst (λ (z : TheStillFront g.row.P.Denot). GoesOnForFront z.core z.seen w) (sym c.self.view_is) c.requires.goes_on in
    let next : next_at w.core w.seen ≡ next_at v.core v.seen = subst (λ (z : TheStillFront g.row.P.Denot). next_at w.core w.seen ≡ next_at z.core z.seen) (sym c.self.view_is) c.requires.next in
    still_next v w c.self.inside.base c.self.inside.creators.counted c.self.invariant goes next
