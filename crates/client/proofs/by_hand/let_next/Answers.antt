use Rattle.std.proofs.Common.{[], ◌∷◌, subst}
use Rattle.inorder.specs.OneHistory.{Adds}
use Rattle.station.specs.Letting.{let_of}
use Rattle.client.specs.Done.{IsLetNext}
use Rattle.client.proofs.Known.{front_goes_on}
use Rattle.client.proofs.Same.{front_on}
use Rattle.client.proofs.by_hand.let_next.Goals as goal

pub let_out-tag-requires-clause-may : goal.let_out-tag-requires-clause-may
let_out-tag-requires-clause-may c =
    let core = c.args.core.now in
    let seen = c.args.seats.now.front.seen in
    let may = c.requires.may in
    let since = subst (λ n. Adds core.program core.sizes n may.all seen []) c.requires.all.front_by may.done.front in
    (c.mays_stay.ensures.front core.program core.sizes may.all seen since).lets c.args.tenant may.fact

pub returns-clause-done : goal.returns-clause-done
returns-clause-done c =
    let core = c.args.core.now in
    let s = c.args.seats.now in
    let lets = c.let_out-tag.ensures in
    let f = c.let_out-tag.new.seat in
    let adds = subst (λ n. Adds core.program core.sizes n s.front.seen f.seen (let_of c.args.tenant ∷ [])) c.requires.all.front_by lets.history in
    front_goes_on core s c.gather_twice.new.seats c.requires.all f lets.kept.by lets.history.begins c.gather_twice.ensures.met
    (IsLetNext core c.args.tenant c.let_out-tag.result) (record { adds = adds; tag_is = lets.reply })

pub gather_twice-requires : goal.gather_twice-requires
gather_twice-requires c = let lets = c.let_out-tag.ensures in front_on c.requires.all lets.kept lets.history.begins
