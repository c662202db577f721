-- The second of two tenants asks for its source, and what the first makes reaches it along the link.
use Rattle.std.proofs.Common.{◌≡◌, ◌≢◌, ◌⊎◌, ℕ, ◌<◌, true, is_none, List, [], ◌∷◌, ◌++◌, map, Some, None, refl, sym, ap, ◌∙◌, subst, inl, inr, ⊎_elim}
use Rattle.std.specs.List.{AllByRecursion}
use Rattle.instructions.specs.Programs.{Program}
use Rattle.inorder.specs.declared.history.Act.{Act}
use Rattle.inorder.specs.declared.history.Act.TheVariants.{Claim, Deliver, Finish, Link}
use Rattle.inorder.specs.declared.history.Entry.{Entry}
use Rattle.inorder.specs.declared.history.Event.{Event}
use Rattle.inorder.specs.declared.history.Event.TheVariants.{Does, Marks}
use Rattle.inorder.specs.declared.history.Mark.TheVariants.{Walked}
use Rattle.inorder.specs.declared.history.Source.{Source}
use Rattle.inorder.specs.declared.history.Source.TheVariants.{First, Second}
use Rattle.inorder.specs.declared.history.Step.TheVariants.{On}
use Rattle.inorder.specs.declared.history.Supply.TheVariants.{From, Known}
use Rattle.inorder.specs.History.{IsLegal, IsWalked, MayAdd, entry, front, unit_of}
use Rattle.inorder.specs.Legal.{MayAct, applied}
use Rattle.inorder.specs.Replies.{last_tag}
use Rattle.inorder.specs.Steps.{delivered, linked, new_tenant}
use Rattle.inorder.specs.Tenants.{AtLet, Busy, Done, Linked, Live, Open, Squashed, Tenant, Unlinked}
use Rattle.inorder.specs.Unit.{Sizes, UpdateUnit, older, value_of}
use Rattle.station.specs.Asking.{IsQuestion}
use Rattle.station.specs.Writeback.{IsDeliveryOf}
use Rattle.client.specs.Chains.{IsChain}
use Rattle.client.proofs.TwoTenants.{a_of, made_none, one_of, reads_it, two_at}

abbrev pub two : Tenant → Tenant → UpdateUnit
two b a = record { tenants = b ∷ a ∷ []; fresh = 2 }

module _ (P : Program) (C : Sizes) (predicted : ℕ) where
  abbrev a : Tenant
  a = a_of P C

  -- the second as it is let, with its link, and with its value
  abbrev pub b_let : Tenant
  b_let = new_tenant P C (one_of P C) 1 predicted From (Known 0)

  abbrev pub b_linked : Tenant
  b_linked = linked (a ∷ []) b_let First

  -- the first as it is claimed and finished
  abbrev pub a_busy : ℕ → Tenant
  a_busy by = record a { fate = Busy by }

  abbrev pub a_done : ℕ → Tenant
  a_done v = record a { fate = Done v; made = Some v }

  abbrev pub b_ready : ℕ → Tenant
  b_ready v = delivered (a_done v ∷ []) b_linked First

  -- one act in a unit that is known
  acts : (h : List Entry) (by r q : ℕ) (act : Act) (U : UpdateUnit) → unit_of P C h ≡ U → r ≡ q → unit_of P C (entry by (Does (On r act)) ∷ h) ≡ applied P C U by (On q act)
  acts h by r q act U e f = λ i. applied P C (e i) by (On (f i) act)

  may_act : (h : List Entry) (by r : ℕ) (act : Act) (U : UpdateUnit) → unit_of P C h ≡ U → MayAdd P C h by (Does (On r act)) → MayAct P U.tenants by r act
  may_act h by r act U e may = subst (λ (V : UpdateUnit). MayAct P V.tenants by r act) e may.1

  -- a link is the second's
  is_link : (by r : ℕ) → MayAct P (b_let ∷ a ∷ []) by r (Link First) → r ≡ 1
  is_link by r x = ⊎_elim
      (λ second. second.0)
      (λ first. let way : AtLet ≡ Unlinked = ap (λ (t : Tenant). t.first.way) first.1 ∙ x.may.way in absurd (cc way))
      (two_at b_let a x.tenant r x.is)

  -- a claim is the first's, since the second waits
  pub is_claim : (by p : ℕ) → MayAct P (b_linked ∷ a ∷ []) by p Claim → p ≡ 0
  is_claim by p x = ⊎_elim
      (λ second. let waits : Some First ≡ None = ap (Rattle.inorder.specs.Tenants.missing P) second.1 ∙ x.may.needs in absurd (cc waits))
      (λ first. first.0)
      (two_at b_linked a x.tenant p x.is)

  pub is_finish : (by p : ℕ) → MayAct P (b_linked ∷ a_busy by ∷ []) by p Finish → p ≡ 0
  is_finish by p x = ⊎_elim
      (λ second. let busy : Open ≡ Busy by = ap (λ (t : Tenant). t.fate) second.1 ∙ x.may.fate in absurd (cc busy))
      (λ first. first.0)
      (two_at b_linked (a_busy by) x.tenant p x.is)

  pub nobody_squashed : (by p : ℕ) (t : Tenant) → Rattle.inorder.specs.Unit.at (b_linked ∷ a_busy by ∷ []) p ≡ Some t → t.standing ≢ Squashed
  nobody_squashed by p t is e = ⊎_elim
      (λ second. let no : Live ≡ Squashed = ap (λ (u : Tenant). u.standing) second.1 ∙ e in absurd (cc no))
      (λ first. let no : Live ≡ Squashed = ap (λ (u : Tenant). u.standing) first.1 ∙ e in absurd (cc no))
      (two_at b_linked (a_busy by) t p is)

  module _ (chain : IsChain P) (ring : 1 < C.ring) (queue : 0 < C.queue) (tags : C.first_tag < last_tag) where
    reads : b_linked.first.creator ≡ Some 0
    reads = reads_it P C chain ring queue tags

    unmade : value_of (a ∷ []) b_linked.first.creator ≡ None
    unmade = ap (value_of (a ∷ [])) reads ∙ made_none P C chain ring queue tags

    in_time : b_linked.first.way ≡ Linked true
    in_time = ap (λ o. Linked (is_none o)) unmade

    -- the question links, and finds no value
    no_value_yet : (by r : ℕ) → r ≡ 1 → ¬ MayAct P (b_linked ∷ a ∷ []) by r (Deliver First)
    no_value_yet by r here x =
        let may = x.may in
        ⊎_elim
        (λ second.
        let none : None ≡ Some may.value = sym unmade ∙ ((λ i. value_of (older (b_linked ∷ a ∷ []) (sym here i)) (second.1 i).first.creator) ∙ may.is_made) in
        absurd (cc none))
        (λ first. let zero_one : 0 ≡ 1 = sym first.0 ∙ here in absurd (cc zero_one))
        (two_at b_linked a x.tenant r x.is)

    pub asked : (h new : List Entry) (r : ℕ) (events : List Event) → unit_of P C h ≡ two b_let a → IsQuestion r First events → new ≡ map (entry front) events ++ h → IsLegal P C new
        → unit_of P C new ≡ two b_linked a
    asked h new r events unit question is legal = ⊎_elim
        (λ linked.
        let seen = is ∙ ap (λ es. map (entry front) es ++ h) linked in
        let l = subst (IsLegal P C) seen legal in
        let here = is_link front r (may_act h front r (Link First) (two b_let a) unit l.0.1) in
        ap (unit_of P C) seen ∙ acts h front r 1 (Link First) (two b_let a) unit here)
        (λ found.
        let seen = is ∙ ap (λ es. map (entry front) es ++ h) found in
        let l = subst (IsLegal P C) seen legal in
        let here = is_link front r (may_act h front r (Link First) (two b_let a) unit l.0.0.1) in
        let link : List Entry = entry front (Does (On r (Link First))) ∷ h in
        absurd (no_value_yet front r here (may_act link front r (Deliver First) (two b_linked a) (acts h front r 1 (Link First) (two b_let a) unit here) l.0.1)))
        question

    -- the walk
    module _ (v : ℕ) where
      pub value_is : (b_ready v).first.value ≡ Some v
      value_is = ap (value_of (a_done v ∷ [])) reads

      -- a delivery is the second's
      is_delivery : (by r : ℕ) (k : Source) → MayAct P (b_linked ∷ a_done v ∷ []) by r (Deliver k) → (r ≡ 1) × (k ≡ First)
      is_delivery by r First x = ⊎_elim
          (λ second. (second.0, refl))
          (λ first. let way : AtLet ≡ Linked x.may.in_time = ap (λ (t : Tenant). t.first.way) first.1 ∙ x.may.way in absurd (cc way))
          (two_at b_linked (a_done v) x.tenant r x.is)
      is_delivery by r Second x = ⊎_elim
          (λ second. let way : AtLet ≡ Linked x.may.in_time = ap (λ (t : Tenant). t.second.way) second.1 ∙ x.may.way in absurd (cc way))
          (λ first. let way : AtLet ≡ Linked x.may.in_time = ap (λ (t : Tenant). t.second.way) first.1 ∙ x.may.way in absurd (cc way))
          (two_at b_linked (a_done v) x.tenant r x.is)

      -- and there is only one
      no_second : (by r : ℕ) (k : Source) → ¬ MayAct P (b_ready v ∷ a_done v ∷ []) by r (Deliver k)
      no_second by r First x = ⊎_elim
          (λ second. let some : Some v ≡ None = sym value_is ∙ (ap (λ (t : Tenant). t.first.value) second.1 ∙ x.may.waits) in absurd (cc some))
          (λ first. let way : AtLet ≡ Linked x.may.in_time = ap (λ (t : Tenant). t.first.way) first.1 ∙ x.may.way in absurd (cc way))
          (two_at (b_ready v) (a_done v) x.tenant r x.is)
      no_second by r Second x = ⊎_elim
          (λ second. let way : AtLet ≡ Linked x.may.in_time = ap (λ (t : Tenant). t.second.way) second.1 ∙ x.may.way in absurd (cc way))
          (λ first. let way : AtLet ≡ Linked x.may.in_time = ap (λ (t : Tenant). t.second.way) first.1 ∙ x.may.way in absurd (cc way))
          (two_at (b_ready v) (a_done v) x.tenant r x.is)

      module _ (by q : ℕ) (new fin : List Entry) (unit : unit_of P C fin ≡ two b_linked (a_done v)) where
        delivers : (h : List Entry) (r : ℕ) (k : Source) → MayAdd P C h by (Does (On r (Deliver k))) → (unit_of P C h ≡ two b_linked (a_done v)) ⊎ (unit_of P C h ≡ two (b_ready v) (a_done v))
            → unit_of P C (entry by (Does (On r (Deliver k))) ∷ h) ≡ two (b_ready v) (a_done v)
        delivers h r k may before = ⊎_elim
            (λ waits.
            let here = is_delivery by r k (may_act h by r (Deliver k) (two b_linked (a_done v)) waits may) in
            λ i. applied P C (waits i) by (On (here.0 i) (Deliver (here.1 i))))
            (λ there. absurd (no_second by r k (may_act h by r (Deliver k) (two (b_ready v) (a_done v)) there may)))
            before

        carried : (ds : List Event) → AllByRecursion (IsDeliveryOf P C new q) ds → IsLegal P C (map (entry by) ds ++ fin)
            → (unit_of P C (map (entry by) ds ++ fin) ≡ two b_linked (a_done v)) ⊎ (unit_of P C (map (entry by) ds ++ fin) ≡ two (b_ready v) (a_done v))
        carried [] each legal = inl unit
        carried (d ∷ ds) each legal =
            let h : List Entry = map (entry by) ds ++ fin in
            let x = each.0 in
            let e : entry by d ∷ h ≡ entry by (Does (On x.r (Deliver x.k))) ∷ h = ap (λ z. entry by z ∷ h) x.is in
            let l = subst (IsLegal P C) e legal in
            inr (ap (unit_of P C) e ∙ delivers h x.r x.k l.1 (carried ds each.1 l.0))

        -- and at its end the value is there
        pub walked : q ≡ 0 → (ds : List Event) → AllByRecursion (IsDeliveryOf P C new q) ds → IsLegal P C (entry by (Marks (Walked q)) ∷ (map (entry by) ds ++ fin))
            → unit_of P C (map (entry by) ds ++ fin) ≡ two (b_ready v) (a_done v)
        walked zero ds each legal = ⊎_elim
            (λ waits.
            let all : IsWalked (two b_linked (a_done v)) q = subst (λ U. IsWalked U q) waits legal.1.1 in
            ⊎_elim
            (λ there. let none : None ≡ Some there.0 = there.1 in absurd (cc none))
            (λ gone. absurd (gone refl))
            (all 1 b_linked First refl (reads ∙ ap Some (sym zero)) in_time))
            (λ there. there)
            (carried ds each legal.0)
