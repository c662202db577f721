-- One link of a walk: its consumer gets the value, unless it has it or has left.
use Rattle.std.proofs.Common.{◌≡◌, ◌≢◌, ◌⊎◌, ℕ, ◌≤◌, List, [], ◌∷◌, ◌++◌, map, Some, refl, sym, ap, ◌∙◌, subst, inl, ⊎_elim, arith, inr}
use Rattle.instructions.specs.Programs.{Program}
use Rattle.inorder.specs.declared.history.Act.TheVariants.{Deliver}
use Rattle.inorder.specs.declared.history.Entry.{Entry}
use Rattle.inorder.specs.declared.history.Event.{Event}
use Rattle.inorder.specs.declared.history.Event.TheVariants.{Does}
use Rattle.inorder.specs.declared.history.Source.{Source}
use Rattle.inorder.specs.declared.history.Step.TheVariants.{On}
use Rattle.inorder.specs.Callers.{HasMade, IsServed}
use Rattle.inorder.specs.History.{IsLegal, entry, taken_of, unit_of, renewals}
use Rattle.inorder.specs.OneHistory.{Adds}
use Rattle.inorder.specs.Legal.{Allowed}
use Rattle.inorder.specs.Replies.{Has, IsDelivered}
use Rattle.inorder.specs.Steps.{delivered}
use Rattle.inorder.specs.Tenants.{Live, Tenant, operand}
use Rattle.inorder.specs.Unit.{at, older, recent, Sizes, UpdateUnit}
use Rattle.inorder.proofs.Histories.{adds_on, allowed_steps}
use Rattle.inorder.proofs.Moves.{IsActed, IsLeft, at_changed}
use Rattle.inorder.proofs.Serving.{AreLinked, are_small}
use Rattle.inorder.proofs.Tags.{tagged}
use Rattle.ruu_words.specs.declared.rule.View.{View}
use Rattle.ruu_words.specs.Content.{NamesLink}
use Rattle.ruu_words.specs.Fields.{consumer_of, producer_of, tag_of}
use Rattle.ruu_words.specs.Kinds.{Delivers, Finds, HasLink, IsAny, IsNamed, IsTenant, ReadsLink}
use Rattle.ruu_words.specs.Telling.{Grows}
use Rattle.ruu_words.proofs.Delivery.{link_on}
use Rattle.ruu_words.proofs.StationWords.{one_tag}
use Rattle.ruu_words.proofs.Stays.{named_of, named_on, named_stays, one_named, same_before, tenant_stays}
use Rattle.ruu_words.proofs.Walking.{IsServedOr, consumer_is, producer_is, served_but_named, served_but_stays, served_unless_named, served_with_it}
use Rattle.ruu_words.proofs.Asking.{value_there}
use Rattle.station.specs.Carrying.{HasValueOf, IsServing, OfTenant}
use Rattle.station.specs.Writeback.{CanDeliver, IsDeliveryOf}
use Rattle.station.proofs.Adding.{adds_these}
use Rattle.inorder.proofs.Recent.{recent_at, recent_or_left}
use Rattle.station.proofs.WalkStays.{from_first, made_of, made_on, value_on}

module _ (P : Program) (C : Sizes) where
  module _ (by p g c n val : ℕ) (k : Source) (v0 v1 : View) (g1 : Grows P C by v0 v1 (ReadsLink P C p c k n)) where
    seen1 : v1.seen ≡ g1.between ++ v0.seen
    seen1 = g1.is ∙ ap (λ es. map (entry by) es ++ (g1.between ++ v0.seen)) g1.kind.none

    legal1 : IsLegal P C (g1.between ++ v0.seen)
    legal1 = subst (IsLegal P C) seen1 g1.legal

    same1 : renewals (g1.between ++ v0.seen) ≡ renewals v0.seen
    same1 = same_before P C by v0 v1 (ReadsLink P C p c k n) g1

    adds1 : Adds P C by v0.seen v1.seen []
    adds1 = adds_these P C by v0 v1 (ReadsLink P C p c k n) [] g1 g1.kind.none

    -- it names another producer
    pub serves_nobody : producer_of n ≢ g → OfTenant P C v0.seen p g (λ q. IsServing P C by q c k v0.seen v1.seen)
    serves_nobody other q i =
        let now = named_stays P C q p g g1.between v0.seen legal1 same1 i in
        record {
          events = [];
          each = tt;
          adds = adds1;
          served = subst (λ z. IsServed (unit_of P C z) q c k) (sym seen1)
              (served_unless_named P C (g1.between ++ v0.seen) legal1 q p c n k now.tenant now.is now.station_is g1.kind.word (λ e. other (e ∙ now.tag_is)));
        }

    -- it names this one: its consumer asked for the value
    asks_it : 1 ≤ C.first_tag → producer_of n ≡ g → (q : ℕ) → IsNamed (unit_of P C v0.seen) q p g → (r : ℕ) × IsTenant (unit_of P C v1.seen) r c (consumer_of n) (HasLink k q)
    asks_it first names q i = subst (λ z. (r : ℕ) × IsTenant (unit_of P C z) r c (consumer_of n) (HasLink k q)) (sym seen1) (⊎_elim
        (λ (none : n ≡ 0).
        let its = recent_at (unit_of P C (g1.between ++ v0.seen)) q m.tenant m.is m.new in
        let least = from_first C (recent (unit_of P C (g1.between ++ v0.seen))) (tagged P C (taken_of (g1.between ++ v0.seen)) (allowed_steps P C (g1.between ++ v0.seen) legal1)) its.r m.tenant its.is
        in
        let tag = m.tag_is in
        let low : producer_of n ≡ 0 = ap producer_of none in
        absurd (omega arith))
        (λ (l : NamesLink (unit_of P C (g1.between ++ v0.seen)) p c k n).
        let small = are_small P C (g1.between ++ v0.seen) legal1 l.r l.consumer l.is.consumer_is in
        let tag : consumer_of n ≡ l.consumer.tag = consumer_is l.producer.tag l.consumer.tag n (omega arith) l.word in
        let from : producer_of n ≡ l.producer.tag = producer_is l.producer.tag l.consumer.tag n (omega arith) l.word in
        let one : l.q ≡ q = one_tag P C (g1.between ++ v0.seen) legal1 l.q q l.producer m.tenant l.is.producer_is m.is l.producer_new m.new (l.at_p ∙ sym m.station_is)
        (sym from ∙ (names ∙ sym m.tag_is)) in (
          l.r,
          record {
            tenant = l.consumer;
            is = l.is.consumer_is;
            new = l.consumer_new;
            station_is = l.at_c;
            tag_is = sym tag;
            fact = record { in_time = l.is.in_time; way = l.is.way; creator = l.is.creator ∙ ap Some one };
          },
        ))
        g1.kind.word.names)
      where
        m : IsNamed (unit_of P C (g1.between ++ v0.seen)) q p g
        m = named_stays P C q p g g1.between v0.seen legal1 same1 i

    pub can_deliver : 1 ≤ C.first_tag → HasValueOf P C v0.seen p g val → producer_of n ≡ g → CanDeliver P C v1.seen c k (consumer_of n) val
    can_deliver first made names =
        let asks = asks_it first names made.p (named_of made.named) in
        record {
          consumer = asks.0;
          producer = made.p;
          asks = asks.1;
          made = made_on P C by made.p val [] v0.seen v1.seen adds1 (record { tenant = made.named.tenant; is = made.named.is; made = made.named.fact });
        }

    -- and has it now, had it, or has left
    module _ (old n2 : ℕ) (v2 : View) (to : tag_of old ≡ consumer_of n) (g2 : Grows P C by v1 v2 (Delivers P C c k (tag_of old) old n2)) (q : ℕ) (i : IsNamed (unit_of P C v0.seen) q p g)
        (made0 : HasValueOf P C v0.seen p g val) (r : ℕ) (asks : IsTenant (unit_of P C v1.seen) r c (consumer_of n) (HasLink k q)) where
      abbrev U2 : UpdateUnit
      U2 = unit_of P C (g2.between ++ v1.seen)

      made_mid : HasMade (unit_of P C v1.seen) q val
      made_mid = made_of P C v1.seen g1.legal q p g val (value_on P C by p g val [] v0.seen v1.seen adds1 made0) (named_on P C by q p g [] v0.seen v1.seen adds1 i)

      but : AreLinked (unit_of P C v1.seen) q c k (IsServedOr k (consumer_of n))
      but =
          let now = named_stays P C q p g g1.between v0.seen legal1 same1 i in
          subst (λ z. AreLinked (unit_of P C z) q c k (IsServedOr k (consumer_of n))) (sym seen1)
          (served_but_named P C (g1.between ++ v0.seen) legal1 q p c n k now.tenant now.is now.station_is g1.kind.word)

      pub serves_hit : Finds (unit_of P C (g2.between ++ v1.seen)) c (tag_of old) g2.events IsAny (λ x. Does (On x (Deliver k)) ∷ []) → IsServing P C by q c k v0.seen v2.seen
      serves_hit f =
          let act : Event = Does (On f.p (Deliver k)) in
          let more : List Entry = entry by act ∷ g2.between in
          let new : List Entry = entry by act ∷ (g2.between ++ v1.seen) in
          let seen2 : v2.seen ≡ new = g2.is ∙ ap (λ es. map (entry by) es ++ (g2.between ++ v1.seen)) f.added in
          let legal2 : IsLegal P C new = subst (IsLegal P C) seen2 g2.legal in
          let a : Allowed P C U2 by (On f.p (Deliver k)) = legal2.1.1 in
          let t : Tenant = a.tenant in
          let now : IsActed P U2.tenants by f.p (Deliver k) t f.p t = ⊎_elim (λ z. z) (λ (z : IsLeft P U2.tenants by f.p (Deliver k) f.p t). absurd (z.position refl))
          (at_changed P U2.tenants by f.p (Deliver k) t a.is f.p t a.is) in
          let there : IsDelivered (unit_of P C new) f.p k = record {
            tenant = delivered (older U2.tenants f.p) t k;
            is = now.now;
            fact = (a.may.value, value_there (older U2.tenants f.p) k t ∙ a.may.is_made);
          } in
          let named = named_stays P C f.p c (consumer_of n) (entry by act ∷ []) (g2.between ++ v1.seen) legal2 refl (subst (λ z. IsNamed U2 f.p c z) to f.tenant) in
          let asks2 : IsTenant (unit_of P C new) r c (consumer_of n) (HasLink k q) = tenant_stays P C r c (consumer_of n) (HasLink k q) (λ b step x x' m l. link_on P C k q b step x x' m l) more
          v1.seen legal2 (same_before P C by v1 v2 (Delivers P C c k (tag_of old) old n2) g2) asks in
          let one : r ≡ f.p = one_named P C new legal2 r f.p c (consumer_of n) (named_of asks2) named in
          let served : IsServed (unit_of P C new) q c k = served_with_it P C (unit_of P C new) q c (consumer_of n) k (served_but_stays P C q val c (consumer_of n) k more v1.seen legal2 made_mid but)
          (λ x y at_x station tag. ⊎_elim
          (λ fresh. inl (subst (λ z. IsDelivered (unit_of P C new) z k) (one_tag P C new legal2 f.p x named.tenant y named.is at_x named.new fresh (named.station_is ∙ sym station)
          (named.tag_is ∙ sym tag)) there))
          (λ left. inr left)
          (recent_or_left P C new legal2 x y at_x)) in
          record {
            events = act ∷ [];
            each = (
              subst (λ z. IsDeliveryOf P C z q act) (sym seen2) (record {
                r = f.p;
                k = k;
                is = refl;
                asked = subst (λ z. Has (unit_of P C new) z (λ x. (operand k x).creator ≡ Some q)) one (record { tenant = asks2.tenant; is = asks2.is; fact = asks2.fact.creator });
              }),
              tt,
            );
            adds = adds_on P C by v0.seen v1.seen v2.seen [] (act ∷ []) adds1 (adds_these P C by v1 v2 (Delivers P C c k (tag_of old) old n2) (act ∷ []) g2 f.added);
            served = subst (λ z. IsServed (unit_of P C z) q c k) (sym seen2) served;
          }

      pub serves_miss : g2.events ≡ [] → ((x : ℕ) (t : Tenant) → at (unit_of P C (g2.between ++ v1.seen)).tenants x ≡ Some t → t.station ≡ c → t.tag ≡ tag_of old →
          IsDelivered (unit_of P C (g2.between ++ v1.seen)) x k ⊎ (t.standing ≢ Live))
          → IsServing P C by q c k v0.seen v2.seen
      serves_miss none it =
          let new : List Entry = g2.between ++ v1.seen in
          let seen2 : v2.seen ≡ new = g2.is ∙ ap (λ es. map (entry by) es ++ (g2.between ++ v1.seen)) none in
          let legal2 : IsLegal P C new = subst (IsLegal P C) seen2 g2.legal in
          let served : IsServed (unit_of P C new) q c k = served_with_it P C (unit_of P C new) q c (consumer_of n) k
          (served_but_stays P C q val c (consumer_of n) k g2.between v1.seen legal2 made_mid but)
          (λ x y at_x station tag. it x y at_x station (tag ∙ sym to)) in
          record {
            events = [];
            each = tt;
            adds = adds_on P C by v0.seen v1.seen v2.seen [] [] adds1 (adds_these P C by v1 v2 (Delivers P C c k (tag_of old) old n2) [] g2 none);
            served = subst (λ z. IsServed (unit_of P C z) q c k) (sym seen2) served;
          }

    pub serves_one : 1 ≤ C.first_tag → HasValueOf P C v0.seen p g val → producer_of n ≡ g → (old n2 : ℕ) (v2 : View) → tag_of old ≡ consumer_of n →
        (g2 : Grows P C by v1 v2 (Delivers P C c k (tag_of old) old n2))
        → OfTenant P C v0.seen p g (λ q. IsServing P C by q c k v0.seen v2.seen)
    serves_one first made names old n2 v2 to g2 q i =
        let asks = asks_it first names q i in
        ⊎_elim
        (λ (hit : (n2 ≡ old) × Finds (unit_of P C (g2.between ++ v1.seen)) c (tag_of old) g2.events IsAny (λ x. Does (On x (Deliver k)) ∷ [])). serves_hit old n2 v2 to g2 q i made asks.0 asks.1 hit.1)
        (λ miss. serves_miss old n2 v2 to g2 q i made asks.0 asks.1 miss.1 miss.2)
        g2.kind
