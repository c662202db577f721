use Rattle.std.proofs.Common.{◌≡◌, ℕ, List, ◌+◌, ◌<◌, ◌≤◌, ◌%◌, length, sym, ap, ◌∙◌, subst, rules, arith}
use Rattle.instructions.specs.Programs.{Program}
use Rattle.inorder.specs.declared.history.Entry.{Entry}
use Rattle.inorder.specs.History.{unit_of}
use Rattle.station.specs.Letting.{MayLetOut}
use Rattle.ruu_words.specs.declared.rule.Role.TheVariants.{Front}
use Rattle.station.specs.Answers.{MayLetNow}
use Rattle.station.specs.Calls.{TheCall, let_place, caller}
use Rattle.station.specs.Seats.{Caller, TheCore}
use Rattle.station.proofs.Calls.{front_back, seated_in}
use Rattle.station.proofs.LettingOut.{next_out}
use Rattle.station.proofs.cores.Core.let_out.Goals as goal

pub invariant_of-seat : goal.invariant_of-seat
invariant_of-seat c =
    let core = c.args.self.now in
    let value = c.seat.inside.words.value.key in
    let station : ℕ = c.seat.inside.station in
    let v = c.of-call.result in
    let done = c.dispatch-tag.ensures in
    let was = seated_in _ value _ _ _ c.args.seat.now core c.seat.view_is c.requires.core Front _ station c.seat.inside.over _ c.seat.invariant.0 in
    let core_is = ap (λ (z : TheCall). z.core) c.of-call.ensures in
    let ring : c.self.inside.ring ≡ v.core.sizes.ring = sym c.self.invariant.ring_is ∙ (ap (λ (k : TheCore). k.sizes.ring) c.self.view_is ∙ ap (λ (k : TheCore). k.sizes.ring) (sym core_is)) in
    let inside : station < v.core.sizes.ring = subst (λ (k : TheCore). station < k.sizes.ring) (sym core_is) was.inside in
    let here : station ≡ let_place v = was.knows.2 ∙ sym (ap let_place c.of-call.ensures) in
    front_back _ value _ _ _ c.args.seat.now core c.seat.view_is c.requires.core c.of-call.ensures done.same c.call.invariant c.call.view_is (search rules)
    c.wrapped-seat-inside.result c.seat.inside.over
    (subst (λ r. c.wrapped-seat-inside.result < r) ring c.wrapped-seat-inside.ensures.small) done.draft
    (c.wrapped-seat-inside.ensures.value ∙ ((λ i. (here i + 1) % ring i) ∙ sym (next_out done.same done.out)))

pub dispatch-tag-requires-clause-small : goal.dispatch-tag-requires-clause-small
dispatch-tag-requires-clause-small c =
    let small : length c.self.inside.program.code ≤ 16384 = c.self.invariant.small in
    let same : length c.args.self.now.program.code ≡ length c.self.inside.program.code =
    ap (λ (z : TheCore). length z.program.code) (sym c.self.view_is) ∙ ap (λ (P : Program). length P.code) c.self.invariant.program in
    let there : c.args.tenant.index < length c.args.self.now.program.code = c.requires.may.may.is_there in
    omega arith

pub dispatch-tag-requires-clause-letting : goal.dispatch-tag-requires-clause-letting
dispatch-tag-requires-clause-letting c =
    let core = c.args.self.now in
    let t = c.args.tenant in
    let was = seated_in _ c.seat.inside.words.value.key _ _ _ c.args.seat.now core c.seat.view_is c.requires.core Front _ c.seat.inside.station c.seat.inside.over _ c.seat.invariant.0 in
    let seen_is = ap (λ (z : Caller). z.seen) c.seat.view_is in
    let may = subst (λ (h : List Entry). MayLetOut core.program core.sizes (unit_of core.program core.sizes h) t) (sym seen_is) c.requires.may in
    record {
      draft_is = ap (λ (z : TheCall). z.view.draft) c.of-call.ensures ∙ was.knows.1;
      may = subst (λ (z : TheCall). MayLetNow t z.core (caller z)) (sym c.of-call.ensures) may;
      station_is = ap let_place c.of-call.ensures ∙ sym was.knows.2;
    }
