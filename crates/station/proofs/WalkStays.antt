-- What stays while a value walks along the links of its station.
use Rattle.std.proofs.Common.{◌≡◌, ℕ, ◌≤◌, Bool, true, false, cond, eqb, List, [], ◌∷◌, ◌++◌, length, Some, refl, sym, ap, ◌∙◌, subst, arith}
use Rattle.std.specs.List.{AllByRecursion}
use Rattle.instructions.specs.Programs.{Program}
use Rattle.inorder.specs.declared.history.Entry.{Entry}
use Rattle.inorder.specs.declared.history.Event.{Event}
use Rattle.inorder.specs.declared.history.Source.{Source}
use Rattle.inorder.specs.Callers.{HasMade, IsServed}
use Rattle.inorder.specs.History.{IsLegal, taken_of, unit_of, renewals}
use Rattle.inorder.specs.OneHistory.{Adds}
use Rattle.inorder.specs.Replies.{Has}
use Rattle.inorder.specs.Tenants.{Tenant, operand}
use Rattle.inorder.specs.Unit.{at, recent, Sizes}
use Rattle.inorder.proofs.Histories.{allowed_steps, unit_lasts}
use Rattle.inorder.proofs.Moves.{goes}
use Rattle.inorder.proofs.Serving.{made_stays, served_stays}
use Rattle.inorder.proofs.Tags.{AreTagged, tagged}
use Rattle.ruu_words.specs.Kinds.{IsNamed, IsTenant}
use Rattle.ruu_words.proofs.Stays.{named_of, one_named, tenant_stays}
use Rattle.station.specs.Carrying.{HasValueOf, Makes}
use Rattle.station.specs.Writeback.{IsDeliveryOf}
use Rattle.inorder.proofs.Recent.{recent_at}

-- facts of two lists
pub all_append : (Q : Event → Type 0) (xs ys : List Event) → AllByRecursion Q xs → AllByRecursion Q ys → AllByRecursion Q (xs ++ ys)
all_append Q [] ys a b = b
all_append Q (x ∷ xs) ys a b = (a.0, all_append Q xs ys a.1 b)

-- no tag is before the first one
pub from_first : (C : Sizes) (us : List Tenant) → AreTagged C us → (p : ℕ) (t : Tenant) → at us p ≡ Some t → C.first_tag ≤ t.tag
from_first C [] tags p t is = absurd (cc is)
from_first C (u ∷ us) tags p t is = go (eqb p (length us)) refl (from_first C us tags.1 p t)
  where
    go : (b : Bool) → eqb p (length us) ≡ b → (at us p ≡ Some t → C.first_tag ≤ t.tag) → C.first_tag ≤ t.tag
    go true e more =
        let one : Some u ≡ Some t = ap (λ b. cond b (Some u) (at us p)) (sym e) ∙ is in
        let same : u ≡ t = cc one in
        let tag = tags.0 in
        subst (λ (z : Tenant). C.first_tag ≤ z.tag) same (omega arith)
    go false e more = more (ap (λ b. cond b (Some u) (at us p)) (sym e) ∙ is)

module _ (P : Program) (C : Sizes) where
  -- What stays

  delivery_stays : (q : ℕ) (e : Event) (more seen : List Entry) → IsLegal P C (more ++ seen) → IsDeliveryOf P C seen q e → IsDeliveryOf P C (more ++ seen) q e
  delivery_stays q e more seen legal d = record {
    r = d.r;
    k = d.k;
    is = d.is;
    asked = unit_lasts P C (λ U. Has U d.r (λ t. (operand d.k t).creator ≡ Some q))
        (λ U by s a ok x. let g = goes P C U by s a ok d.r x.tenant x.is in record { tenant = g.tenant; is = g.is; fact = g.goes.creator d.k ∙ x.fact })
        more seen legal d.asked;
  }

  deliveries_stay : (q : ℕ) (es : List Event) (more seen : List Entry) → IsLegal P C (more ++ seen) → AllByRecursion (IsDeliveryOf P C seen q) es →
      AllByRecursion (IsDeliveryOf P C (more ++ seen) q) es
  deliveries_stay q [] more seen legal all = tt
  deliveries_stay q (e ∷ es) more seen legal all = (delivery_stays q e more seen legal all.0, deliveries_stay q es more seen legal all.1)

  -- the same over what a caller has seen
  pub deliveries_on : (by q : ℕ) (es fs : List Event) (old new : List Entry) → Adds P C by old new fs → AllByRecursion (IsDeliveryOf P C old q) es → AllByRecursion (IsDeliveryOf P C new q) es
  deliveries_on by q es fs old new a all =
      subst (λ z. AllByRecursion (IsDeliveryOf P C z q) es) (sym a.begins.is) (deliveries_stay q es a.begins.more old (subst (IsLegal P C) a.begins.is a.legal) all)

  pub served_on : (by q v c : ℕ) (k : Source) (fs : List Event) (old new : List Entry) → Adds P C by old new fs → HasMade (unit_of P C old) q v → IsServed (unit_of P C old) q c k →
      IsServed (unit_of P C new) q c k
  served_on by q v c k fs old new a made served =
      subst (λ z. IsServed (unit_of P C z) q c k) (sym a.begins.is) (served_stays P C q v c k a.begins.more old (subst (IsLegal P C) a.begins.is a.legal) made served)

  pub made_on : (by q v : ℕ) (fs : List Event) (old new : List Entry) → Adds P C by old new fs → HasMade (unit_of P C old) q v → HasMade (unit_of P C new) q v
  made_on by q v fs old new a made =
      subst (λ z. HasMade (unit_of P C z) q v) (sym a.begins.is) (made_stays P C q v a.begins.more old (subst (IsLegal P C) a.begins.is a.legal) made)

  pub makes_stays : (p s g v : ℕ) (more seen : List Entry) → IsLegal P C (more ++ seen) → renewals (more ++ seen) ≡ renewals seen → IsTenant (unit_of P C seen) p s g (Makes v) →
      IsTenant (unit_of P C (more ++ seen)) p s g (Makes v)
  makes_stays p s g v more seen legal same i = tenant_stays P C p s g (Makes v) (λ by step t t' m f. m.made v f) more seen legal same i

  pub makes_on : (by p s g v : ℕ) (fs : List Event) (old new : List Entry) → Adds P C by old new fs → IsTenant (unit_of P C old) p s g (Makes v) → IsTenant (unit_of P C new) p s g (Makes v)
  makes_on by p s g v fs old new a i =
      subst (λ z. IsTenant (unit_of P C z) p s g (Makes v)) (sym a.begins.is) (makes_stays p s g v a.begins.more old (subst (IsLegal P C) a.begins.is a.legal)
      (sym (ap renewals a.begins.is) ∙ a.one_table) i)

  pub value_on : (by s g v : ℕ) (fs : List Event) (old new : List Entry) → Adds P C by old new fs → HasValueOf P C old s g v → HasValueOf P C new s g v
  value_on by s g v fs old new a h = record { p = h.p; named = makes_on by h.p s g v fs old new a h.named }

  -- the tenant that is named has made the value
  pub made_of : (h : List Entry) → IsLegal P C h → (q s g v : ℕ) → HasValueOf P C h s g v → IsNamed (unit_of P C h) q s g → HasMade (unit_of P C h) q v
  made_of h legal q s g v m i =
      subst (λ z. HasMade (unit_of P C h) z v) (one_named P C h legal m.p q s g (named_of m.named) i) (record { tenant = m.named.tenant; is = m.named.is; made = m.named.fact })

  -- A word 0 names no tenant
  pub tag_above_zero : (h : List Entry) → IsLegal P C h → 1 ≤ C.first_tag → (s g v : ℕ) → HasValueOf P C h s g v → 1 ≤ g
  tag_above_zero h legal first s g v m =
      let t = m.named in
      let its = recent_at (unit_of P C h) m.p t.tenant t.is t.new in
      let least = from_first C (recent (unit_of P C h)) (tagged P C (taken_of h) (allowed_steps P C h legal)) its.r t.tenant its.is in
      let tag = t.tag_is in
      omega arith
