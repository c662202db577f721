use Rattle.std.proofs.Common.{◌≡◌, ℕ, ◌<◌, sym, subst, arith, ◌∙◌}
use Rattle.inorder.specs.History.{unit_of}
use Rattle.inorder.specs.Unit.{next_station, recent}
use Rattle.ruu_words.specs.declared.place.Place.TheVariants.{Station}
use Rattle.station.specs.Steps.{Sees}
use Rattle.station.proofs.Calls.{after, caller_at, joined, legal_at, ring_at, taken}
use Rattle.station.proofs.Squashing.{squashed_next, squashed_out, youngest_read}
use Rattle.station.proofs.recovery.Call+FrontPart.squash_youngest.Goals as goal

pub wrapped-station-requires : goal.wrapped-station-requires
wrapped-station-requires c =
    let ring_is = ring_at c.core.inside.table.shared.key c.core.invariant.ring_is c.core.view_is c.self.view_is in
    let small : c.args.next < c.core.inside.ring = subst (λ n. c.args.next < n) (sym ring_is) c.requires.place in
    omega (arith, small)

pub left_word-free-requires : goal.left_word-free-requires
left_word-free-requires c =
    let ring_is = ring_at c.core.inside.table.shared.key c.core.invariant.ring_is c.core.view_is c.self.view_is in
    let legal = legal_at c.self.invariant c.self.view_is in
    let by_is = caller_at c.self.invariant c.self.view_is in
    (youngest_read c.wrapped-station.ensures.value legal by_is ring_is c.requires.place c.requires.next c.requires.may c.look-found.ensures
    c.unpack-tag.result.tag c.unpack-tag.ensures.tag).0

pub squash_tenant-requires-clause-draft : goal.squash_tenant-requires-clause-draft
squash_tenant-requires-clause-draft c =
    c.look-found.ensures.grows.kind.mine (caller_at c.self.invariant c.self.view_is) ∙ c.requires.draft

pub squash_tenant-requires-clause-youngest : goal.squash_tenant-requires-clause-youngest
squash_tenant-requires-clause-youngest c =
    let ring_is = ring_at c.core.inside.table.shared.key c.core.invariant.ring_is c.core.view_is c.self.view_is in
    let legal = legal_at c.self.invariant c.self.view_is in
    let by_is = caller_at c.self.invariant c.self.view_is in
    (youngest_read c.wrapped-station.ensures.value legal by_is ring_is c.requires.place c.requires.next c.requires.may c.look-found.ensures
    c.unpack-tag.result.tag c.unpack-tag.ensures.tag).1

pub returns-clause-squashed : goal.returns-clause-squashed
returns-clause-squashed c =
    let v = c.args.self.now in
    let P = v.core.program in
    let C = v.core.sizes in
    let by_is = caller_at c.self.invariant c.self.view_is in
    let at = c.look-found.new.self.view in
    let w = c.squash_tenant.new.self.view in
    let g1 = c.look-found.ensures.grows in
    let g2 = taken c.look-found.ensures.same c.squash_tenant.ensures in
    let station : ℕ = c.wrapped-station.result in
    let kind = Sees P C v.view.by v.view (Station station) c.look-found.result in
    let on2 = joined c.look-found.ensures.same c.squash_tenant.ensures.same in
    record {
      same = on2;
      draft = c.squash_tenant.ensures.grows.kind.draft;
      reply = squashed_out P C v.view.by station c.unpack-tag.result.tag v.view at w kind g1 g1.kind.none g2 by_is c.requires.may;
      next = sym (after (λ z. station ≡ next_station z.0.sizes (recent (unit_of z.0.program z.0.sizes w.seen))) on2
          (squashed_next P C v.view.by station c.unpack-tag.result.tag v.view at w kind g1 g1.kind.none g2 by_is));
    }
