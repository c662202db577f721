use Rattle.std.proofs.Common.{◌≡◌, ◌<◌, Some, None, sym, subst}
use Rattle.std.specs.Prelude.{slice_index}
use Rattle.inorder.specs.History.{unit_of}
use Rattle.front.specs.Path.{rested_at}
use Rattle.front.specs.CreateTable.{EntryFinds}
use Rattle.front.specs.Creating.{IsCreatorAnswer}
use Rattle.front.specs.Fronts.{TheFront}
use Rattle.front.specs.declared.answers.Made.TheVariants.{Base, Made as IsMade}
use Rattle.front.proofs.Creating.{based, made}
use Rattle.front.proofs.dispatcher.Front.creator.Goals as goal

pub returns-in-Some : goal.returns-in-Some
returns-in-Some g c =
    let f = c.self.inside in
    let P = f.seat.core.program in
    let C = f.seat.core.sizes in
    let small : c.args.r < 34 = subst (λ z. z < 34) c.number-at.ensures.value c.number-at.ensures.small in
    let found : EntryFinds f.creators.counted.table c.args.r (Some c.in-Some.creator) = subst (EntryFinds f.creators.counted.table c.args.r) c.in-Some.is c.peek.ensures in
    subst (λ (z : TheFront g.row.P.Denot). IsCreatorAnswer z.core.program (unit_of z.core.program z.core.sizes z.seen) z.trained_upto c.args.r (IsMade c.in-Some.creator.station c.in-Some.creator.tag))
    c.self.view_is
    (made P C (unit_of P C f.seat.seen) f.path.records f.path.base c.self.invariant.knows f.creators.counted.table c.self.invariant.table c.args.r small c.in-Some.creator found)

pub returns-in-None : goal.returns-in-None
returns-in-None g c =
    let f = c.self.inside in
    let P = f.seat.core.program in
    let C = f.seat.core.sizes in
    let small : c.args.r < 34 = subst (λ z. z < 34) c.number-at.ensures.value c.number-at.ensures.small in
    let found : EntryFinds f.creators.counted.table c.args.r None = subst (EntryFinds f.creators.counted.table c.args.r) c.in-None.is c.peek.ensures in
    let at : c.number-at.result ≡ c.args.r = c.number-at.ensures.value in
    let right = based P C (unit_of P C f.seat.seen) f.path.records f.path.base c.self.invariant.knows f.creators.counted.table c.self.invariant.table c.args.r small found in
    subst (λ (z : TheFront g.row.P.Denot). IsCreatorAnswer z.core.program (unit_of z.core.program z.core.sizes z.seen) z.trained_upto c.args.r (Base (slice_index f.path.base.registers c.number-at.result)))
    c.self.view_is
    (subst (λ i. IsCreatorAnswer P (unit_of P C f.seat.seen) (rested_at f.path.base) c.args.r (Base (slice_index f.path.base.registers i))) (sym at) right)
