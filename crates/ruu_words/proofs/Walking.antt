-- The walk along the links of a tenant that has made its value.
use Rattle.std.proofs.Common.{◌≡◌, ◌≢◌, ◌⊎◌, ℕ, ◌<◌, true, List, ◌++◌, Some, refl, sym, ◌∙◌, subst, inl, inr, ⊎_elim, arith}
use Rattle.std.proofs.lemmas.Option.{same_Some}
use Rattle.instructions.specs.Programs.{Program}
use Rattle.inorder.specs.declared.history.Entry.{Entry}
use Rattle.inorder.specs.declared.history.Source.{Source}
use Rattle.inorder.specs.declared.history.Step.{Step}
use Rattle.inorder.specs.Callers.{HasMade, IsServed}
use Rattle.inorder.specs.History.{IsLegal, IsWalked, unit_of}
use Rattle.inorder.specs.Replies.{IsDelivered}
use Rattle.inorder.specs.Tenants.{IsNotLive, IsThere, Linked, Live, Retired, Squashed, Standing, Tenant, operand}
use Rattle.inorder.specs.Unit.{Sizes, UpdateUnit, at}
use Rattle.inorder.proofs.Moves.{Goes}
use Rattle.inorder.proofs.Serving.{AreLinked, are_inside, are_small, linked_stay}
use Rattle.ruu_words.specs.Content.{IsLinkWord}
use Rattle.ruu_words.specs.Fields.{consumer_of, pack_link, producer_of}

-- a source that is served, or is of the tenant with this tag
abbrev pub IsServedOr : Source → ℕ → Tenant → Type 0
IsServedOr k g t = (IsThere (operand k t).value ⊎ IsNotLive t) ⊎ (t.tag ≡ g)

served_or_stays : (k : Source) (g by : ℕ) (s : Step) (t t' : Tenant) → Goes by s t t' → IsServedOr k g t → IsServedOr k g t'
served_or_stays k g by s t t' m f = ⊎_elim
    (λ z. inl (⊎_elim (λ (x : IsThere (operand k t).value). inl (x.0, m.value k x.0 x.1)) (λ (x : IsNotLive t). inr (λ live. x (m.live live))) z))
    (λ e. inr (m.tag ∙ e))
    f

pub producer_is : (g c n : ℕ) → c < 268435456 → n ≡ pack_link g c → producer_of n ≡ g
producer_is g c n small e = omega arith

pub consumer_is : (g c n : ℕ) → c < 268435456 → n ≡ pack_link g c → consumer_of n ≡ c
consumer_is g c n small e = omega arith

module _ (P : Program) (C : Sizes) where
  -- what a link word of the station of tenant q says of the sources that were linked to q
  pub linked_by_word : (h : List Entry) → IsLegal P C h → (q p c n : ℕ) (k : Source) (u : Tenant) → at (unit_of P C h).tenants q ≡ Some u → u.station ≡ p → IsLinkWord (unit_of P C h) p c k n
      → (r : ℕ) (t : Tenant) → at (unit_of P C h).tenants r ≡ Some t → t.station ≡ c → (operand k t).creator ≡ Some q → (operand k t).way ≡ Linked true → IsNotLive t ⊎
      ((producer_of n ≡ u.tag) × (consumer_of n ≡ t.tag))
  linked_by_word h legal q p c n k u is_q at_p word r t is at_c from way = go t.standing refl
    where
      go : (st : Standing) → t.standing ≡ st → IsNotLive t ⊎ ((producer_of n ≡ u.tag) × (consumer_of n ≡ t.tag))
      go Live live =
          let w = word.stands q r u t (record { producer_is = is_q; consumer_is = is; in_time = true; way = way; creator = from }) live at_p at_c in
          let small = are_small P C h legal r t is in
          inr (producer_is u.tag t.tag n (omega arith) w, consumer_is u.tag t.tag n (omega arith) w)
      go Retired e = inl (λ live. let x = sym e ∙ live in cc x)
      go Squashed e = inl (λ live. let x = sym e ∙ live in cc x)

  -- a link word that names another producer: all are served
  pub served_unless_named : (h : List Entry) → IsLegal P C h → (q p c n : ℕ) (k : Source) (u : Tenant) →
      at (unit_of P C h).tenants q ≡ Some u → u.station ≡ p → IsLinkWord (unit_of P C h) p c k n →
      producer_of n ≢ u.tag → IsServed (unit_of P C h) q c k
  served_unless_named h legal q p c n k u is_q at_p word other r t is at_c from way = ⊎_elim
      (λ gone. inr gone)
      (λ (z : (producer_of n ≡ u.tag) × (consumer_of n ≡ t.tag)). absurd (other z.0))
      (linked_by_word h legal q p c n k u is_q at_p word r t is at_c from way)

  -- all but the consumer that it names
  pub served_but_named : (h : List Entry) → IsLegal P C h → (q p c n : ℕ) (k : Source) (u : Tenant) →
      at (unit_of P C h).tenants q ≡ Some u → u.station ≡ p → IsLinkWord (unit_of P C h) p c k n →
      AreLinked (unit_of P C h) q c k (IsServedOr k (consumer_of n))
  served_but_named h legal q p c n k u is_q at_p word r t is at_c from way = ⊎_elim
      (λ gone. inl (inr gone))
      (λ (z : (producer_of n ≡ u.tag) × (consumer_of n ≡ t.tag)). inr (sym z.1))
      (linked_by_word h legal q p c n k u is_q at_p word r t is at_c from way)

  pub served_but_stays : (q v c g : ℕ) (k : Source) (more seen : List Entry) → IsLegal P C (more ++ seen) →
      HasMade (unit_of P C seen) q v → AreLinked (unit_of P C seen) q c k (IsServedOr k g) →
      AreLinked (unit_of P C (more ++ seen)) q c k (IsServedOr k g)
  served_but_stays q v c g k more seen legal made all = linked_stay P C q v c k (IsServedOr k g) (served_or_stays k g) more seen legal made all

  -- and that one once it has its value, or has left
  pub served_with_it : (U : UpdateUnit) (q c g : ℕ) (k : Source) → AreLinked U q c k (IsServedOr k g)
      → ((r : ℕ) (t : Tenant) → at U.tenants r ≡ Some t → t.station ≡ c → t.tag ≡ g → IsDelivered U r k ⊎ (t.standing ≢ Live)) → IsServed U q c k
  served_with_it U q c g k all it r t is at_c from way = ⊎_elim
      (λ z. z)
      (λ (tag : t.tag ≡ g). ⊎_elim
      (λ (d : IsDelivered U r k). inl (subst (λ (z : Tenant). IsThere (operand k z).value) (same_Some d.tenant t (sym d.is ∙ is)) d.fact))
      (λ gone. inr gone)
      (it r t is at_c tag))
      (all r t is at_c from way)

  -- so a walk is whole where each station has been served for both sources
  pub is_walked : (h : List Entry) → IsLegal P C h → (q : ℕ) → ((c : ℕ) (k : Source) → c < C.ring → IsServed (unit_of P C h) q c k) → IsWalked (unit_of P C h) q
  is_walked h legal q all p t k is from way = all t.station k (are_inside P C h legal p t is) p t is refl from way
