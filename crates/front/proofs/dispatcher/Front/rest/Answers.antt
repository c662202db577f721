use Rattle.std.proofs.Common.{ap, ◌∙◌, subst, length, ◌≡◌}
use Rattle.inorder.specs.History.{unit_of}
use Rattle.station.specs.Seats.{TheCore}
use Rattle.front.specs.Path.{rested_at}
use Rattle.station.specs.Renewals.{HasNobody}
use Rattle.front.proofs.Fronts.{front_again}
use Rattle.front.proofs.Resting.{nobody_stable, told_stable}
use Rattle.front.proofs.Splitting.{stays}
use Rattle.front.proofs.dispatcher.Front.rest.Goals as goal

pub invariant_of-self-in_default : goal.invariant_of-self-in_default
invariant_of-self-in_default g c =
    let f = c.self.inside in
    let n = c.rest_on-rest.new in
    let core = c.args.core.now in
    let here = ap (λ z. z.core) c.self.view_is ∙ c.requires in
    let e = c.in_default.ensures in
    front_again core f.program.now f.seat n.seat f.path n.path f.creators.counted n.creators.counted f.rested f.rested here c.self.invariant e.kept e.reply.adds.legal e.knows e.table
    (λ r. record {
      nobody = stays core.program core.sizes HasNobody (nobody_stable core.program core.sizes) f.seat.seen n.seat.seen e.reply.adds
          (subst (λ (z : TheCore). HasNobody (unit_of z.program z.sizes f.seat.seen)) here (c.self.invariant.rests r).nobody);
      none = e.records ∙ (c.self.invariant.rests r).none;
      told = e.trained_upto ∙ stays core.program core.sizes (λ U. rested_at f.path.base ≡ length U.tenants) (told_stable core.program core.sizes (rested_at f.path.base)) f.seat.seen n.seat.seen e.reply.adds
          ((c.self.invariant.rests r).told ∙ ap (λ (z : TheCore). length (unit_of z.program z.sizes f.seat.seen).tenants) here);
    })
