use Rattle.std.proofs.Common.{◌≡◌, true, ℕ, ◌+◌, ◌||◌, refl, sym, ap, ◌∙◌, arith}
use Rattle.inorder.specs.declared.history.Source.TheVariants.{First, Second}
use Rattle.station.specs.Calls.{IsSameCall, TheCall}
use Rattle.station.specs.Carrying.{HasValueOf, IsServedAll, IsServing, OfTenant}
use Rattle.station.specs.Seats.{TheCore}
use Rattle.station.specs.Waking.{Wakes}
use Rattle.station.proofs.Calls.{after, before, joined, legal_at, taken}
use Rattle.station.proofs.WalkEnds.{all_served, carries_both, legal_behind, value_behind, walks_away}
use Rattle.station.proofs.Waking.{either_one, either_other, one_of, wakes_before, wakes_ending, wakes_on}
use Rattle.station.proofs.call.Call.walk.Goals as goal
use Rattle.ruu_words.proofs.Stays.{named_of}

pub serve-first-requires-clause-made : goal.serve-first-requires-clause-made
serve-first-requires-clause-made g c = after (λ z. HasValueOf z.0.program z.0.sizes c.loop-to.self.view.seen c.args.from.0 c.args.from.1 c.args.value) c.loop-to.invariant.same
    c.loop-to.invariant.made

pub serve-second-requires-clause-made : goal.serve-second-requires-clause-made
serve-second-requires-clause-made g c =
    let v = c.args.self.now in
    let at = c.loop-to.self in
    let at1 = c.serve-first.new.self in
    let was = c.loop-to.invariant in
    let from = c.args.from in
    let served = before (λ z. OfTenant z.0.program z.0.sizes at.view.seen from.0 from.1 (λ q. IsServing z.0.program z.0.sizes z.1 q c.loop-to.to First at.view.seen at1.view.seen)) was.same
    c.serve-first.ensures.reply in
    after (λ z. HasValueOf z.0.program z.0.sizes at1.view.seen from.0 from.1 c.args.value) (joined was.same c.serve-first.ensures.same)
    (value_behind v.core.program v.core.sizes v.view.by from.0 from.1 c.args.value c.loop-to.to First at.view.seen at1.view.seen was.made served)

pub loop-to-preserved : goal.loop-to-preserved
loop-to-preserved g c =
    let v = c.args.self.now in
    let P = v.core.program in
    let C = v.core.sizes in
    let by = v.view.by in
    let was = c.loop-to.invariant in
    let from = c.args.from in
    let value : ℕ = c.args.value in
    let to : ℕ = c.loop-to.to in
    let at = c.loop-to.self in
    let at1 = c.serve-first.new.self in
    let at2 = c.serve-second.new.self in
    let a = at.view.seen in
    let b = at1.view.seen in
    let d = at2.view.seen in
    let r1 = c.serve-first.result in
    let r2 = c.serve-second.result in
    let on1 : IsSameCall v at1 = joined was.same c.serve-first.ensures.same in
    let first = before (λ z. OfTenant z.0.program z.0.sizes a from.0 from.1 (λ q. IsServing z.0.program z.0.sizes z.1 q to First a b)) was.same c.serve-first.ensures.reply in
    let second = before (λ z. OfTenant z.0.program z.0.sizes b from.0 from.1 (λ q. IsServing z.0.program z.0.sizes z.1 q to Second b d)) on1 c.serve-second.ensures.reply in
    let woke1 = before (λ z. Wakes z.0.program z.0.sizes z.1 a b (λ s. (r1 ≡ true) × (s ≡ to))) was.same c.serve-first.ensures.woken in
    let woke2 = before (λ z. Wakes z.0.program z.0.sizes z.1 b d (λ s. (r2 ≡ true) × (s ≡ to))) on1 c.serve-second.ensures.woken in
    let mid : HasValueOf P C b from.0 from.1 value = value_behind P C by from.0 from.1 value to First a b was.made first in
    let legal = legal_at c.self.invariant c.self.view_is in
    record {
      same = joined on1 c.serve-second.ensures.same;
      legal = legal_behind P C by from.0 from.1 value to Second b d mid second;
      made = value_behind P C by from.0 from.1 value to Second b d mid second;
      carries = carries_both P C by from.0 from.1 value to (to + 1) by by v.view.seen a b d (omega arith) refl refl legal c.requires.made was.carries first second;
      wakes = wakes_on P C by by by to c.loop-to.woken c.with_station-woken.result r1 r2 (r1 || r2) v.view.seen a b d refl refl
          (either_one r1 r2) (either_other r1 r2) (one_of r1 r2) was.wakes woke1 woke2 c.with_station-woken.ensures;
    }

pub end_walk-requires-clause-served : goal.end_walk-requires-clause-served
end_walk-requires-clause-served g c =
    let v = c.args.self.now in
    let at = c.loop-to.self in
    let ring : c.core.inside.ring ≡ v.core.sizes.ring = sym c.core.invariant.ring_is ∙ (ap (λ (k : TheCore). k.sizes.ring) c.core.view_is ∙ ap (λ (z : TheCall). z.core.sizes.ring)
    c.self.view_is) in
    let end = c.loop-to-test.false in
    let all = all_served v.core.program v.core.sizes v.view.by c.args.from.0 c.args.from.1 c.args.value c.loop-to.to v.view.seen at.view.seen (omega arith) c.requires.made
    c.loop-to.invariant.carries
    in
    after (λ z. IsServedAll z.0.program z.0.sizes at.view.seen c.args.from.0 c.args.from.1 c.args.value) c.loop-to.invariant.same all

pub returns : goal.returns
returns g c =
    let v = c.args.self.now in
    let at = c.loop-to.self in
    let end = taken c.loop-to.invariant.same c.end_walk.ensures in
    let P = v.core.program in
    let C = v.core.sizes in
    let w = c.end_walk.new.self.view in
    record {
      same = joined c.loop-to.invariant.same c.end_walk.ensures.same;
      reply = walks_away v.core.program v.core.sizes v.view.by c.args.from.0 c.args.from.1 c.loop-to.to v.view.by v.view.seen at.view c.end_walk.new.self.view refl c.loop-to.invariant.carries end;
      woken = wakes_before P C v.view.by v.view.by c.loop-to.woken v.view.seen at.view.seen w.seen refl c.loop-to.invariant.wakes
          (wakes_ending P C v.view.by c.args.from.0 c.args.from.1 c.loop-to.invariant.made.p at.view w end
          (named_of c.loop-to.invariant.made.named));
    }
