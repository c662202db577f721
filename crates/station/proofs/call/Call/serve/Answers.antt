use Rattle.std.proofs.Common.{◌≡◌, ◌≢◌, ℕ, nat_eq, sym, ap, ◌∙◌, subst, arith, eq-eqb, rules}
use Rattle.std.proofs.lemmas.Bool.{eqb-true}
use Rattle.ruu_words.specs.Fields.{producer_of, tag_of}
use Rattle.station.specs.Writeback.{CanDeliver}
use Rattle.station.proofs.WalkLink.{can_deliver, serves_nobody, serves_one}
use Rattle.station.proofs.WalkStays.{tag_above_zero}
use Rattle.station.proofs.Calls.{Of, joined, legal_at, of_one, taken}
use Rattle.station.proofs.Places.{inside}
use Rattle.station.proofs.Waking.{wakes_delivering, wakes_not, wakes_reading, wakes_served}
use Rattle.station.proofs.call.Call.serve.Goals as goal

pub read_link-word-requires : goal.read_link-word-requires
read_link-word-requires g c = (inside c.args.self.now (legal_at c.self.invariant c.self.view_is) c.requires.made.named, c.requires.to)

pub returns-in-None : goal.returns-in-None
returns-in-None g c =
    let v = c.args.self.now in
    let m1 = c.read_link-word.new.self.view in
    let legal = legal_at c.self.invariant c.self.view_is in
    let above = tag_above_zero v.core.program v.core.sizes v.view.seen legal c.requires.tags c.args.from.0 c.args.from.1 c.args.value c.requires.made in
    let zero_word : c.read_link-word.result ≡ 0 = search rules in
    let other : producer_of c.read_link-word.result ≢ c.args.from.1 = λ e. let zero_tag = sym e ∙ ap producer_of zero_word in omega arith in
    record {
      same = c.read_link-word.ensures.same;
      reply = serves_nobody v.core.program v.core.sizes v.view.by c.args.from.0 c.args.from.1 c.args.to c.read_link-word.result c.args.value c.args.k v.view m1
          c.read_link-word.ensures.grows other;
      woken = wakes_not v.core.program v.core.sizes v.view.by c.args.to v.view.seen m1.seen
          (wakes_reading v.core.program v.core.sizes v.view.by c.args.from.0 c.args.to c.read_link-word.result c.args.k v.view m1 c.read_link-word.ensures.grows);
    }

pub returns-then-link-from : goal.returns-then-link-from
returns-then-link-from g c =
    let v = c.args.self.now in
    let m1 = c.read_link-word.new.self.view in
    let other : producer_of c.read_link-word.result ≢ c.args.from.1 = search rules in
    record {
      same = c.read_link-word.ensures.same;
      reply = serves_nobody v.core.program v.core.sizes v.view.by c.args.from.0 c.args.from.1 c.args.to c.read_link-word.result c.args.value c.args.k v.view m1
          c.read_link-word.ensures.grows other;
      woken = wakes_not v.core.program v.core.sizes v.view.by c.args.to v.view.seen m1.seen
          (wakes_reading v.core.program v.core.sizes v.view.by c.args.from.0 c.args.to c.read_link-word.result c.args.k v.view m1 c.read_link-word.ensures.grows);
    }

pub deliver-found-requires-clause-link : goal.deliver-found-requires-clause-link
deliver-found-requires-clause-link g c =
    let v = c.args.self.now in
    let P = v.core.program in
    let C = v.core.sizes in
    let m1 = c.read_link-word.new.self.view in
    let names : producer_of c.read_link-word.result ≡ c.args.from.1 = search rules in
    let can = can_deliver P C v.view.by c.args.from.0 c.args.from.1 c.args.to c.read_link-word.result c.args.value c.args.k v.view m1 c.read_link-word.ensures.grows c.requires.tags c.requires.made
    names in
    subst (λ (z : Of × (ℕ × ℕ)). CanDeliver z.0.0.program z.0.0.sizes m1.seen c.args.to c.args.k z.1.0 z.1.1)
    (λ i. (
      sym (of_one v c.read_link-word.new.self c.read_link-word.ensures.same) i,
      (
        sym (c.waiting_word-old.ensures.tag ∙ c.in-Some.ensures.consumer) i,
        sym c.value_word-new.ensures.value i,
      ),
    )) can

pub returns : goal.returns
returns g c =
    let v = c.args.self.now in
    let P = v.core.program in
    let C = v.core.sizes in
    let m1 = c.read_link-word.new.self.view in
    let m2 = c.deliver-found.new.self.view in
    let old = c.waiting_word-old.result in
    let names : producer_of c.read_link-word.result ≡ c.args.from.1 = search rules in
    let g2 = taken c.read_link-word.ensures.same c.deliver-found.ensures in
    let n = c.deliver-found.result in
    let read = wakes_reading P C v.view.by c.args.from.0 c.args.to c.read_link-word.result c.args.k v.view m1 c.read_link-word.ensures.grows in
    record {
      same = joined c.read_link-word.ensures.same c.deliver-found.ensures.same;
      reply = serves_one P C v.view.by c.args.from.0 c.args.from.1 c.args.to c.read_link-word.result c.args.value c.args.k v.view m1 c.read_link-word.ensures.grows c.requires.tags
          c.requires.made names
          old c.deliver-found.result m2 (c.waiting_word-old.ensures.tag ∙ c.in-Some.ensures.consumer) g2;
      woken = wakes_served P C v.view.by c.args.to (nat_eq n old) v.view.seen m1.seen m2.seen read
          (wakes_delivering P C v.view.by c.args.to (tag_of old) old n c.args.k m1 m2 g2 (nat_eq n old) (eqb-true n old) (eq-eqb n old));
    }
