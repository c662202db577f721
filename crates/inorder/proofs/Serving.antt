-- What stays of a value that was made: its sources that were linked in time are served, once and for all.
use Rattle.std.proofs.Common.{◌≡◌, ◌≢◌, ◌⊎◌, ℕ, ◌%◌, ◌<◌, Bool, true, false, List, [], ◌∷◌, ◌++◌, length, Option, Some, refl, sym, ap, ◌∙◌, subst, inl, inr, ⊎_elim, arith}
use Rattle.std.specs.Prelude.{is_none}
use Rattle.std.proofs.lemmas.Option.{same_Some}
use Rattle.instructions.specs.Instruction.{first_of, second_of}
use Rattle.instructions.specs.Programs.{Program, instr_of}
use Rattle.inorder.specs.declared.history.Act.{Act}
use Rattle.inorder.specs.declared.history.Act.TheVariants.{Claim, Deliver, Finish, Link, Load, Mend, Retire, Speculate, Squash}
use Rattle.inorder.specs.declared.history.Entry.{Entry}
use Rattle.inorder.specs.declared.history.Event.{Event}
use Rattle.inorder.specs.declared.history.Event.TheVariants.{Does, Marks, Refuses}
use Rattle.inorder.specs.declared.history.Source.{Source}
use Rattle.inorder.specs.declared.history.Source.TheVariants.{First, Second}
use Rattle.inorder.specs.declared.history.Step.{Step}
use Rattle.inorder.specs.declared.history.Step.TheVariants.{Let, On, Renew}
use Rattle.inorder.specs.declared.history.Supply.{Supply}
use Rattle.inorder.specs.declared.history.Supply.TheVariants.{From, Known}
use Rattle.inorder.specs.Callers.{HasMade, IsServed}
use Rattle.inorder.specs.History.{IsLegal, IsWalked, MayAdd, entry, taken_of, unit_of}
use Rattle.inorder.specs.Legal.{Allowed, applied, changed}
use Rattle.inorder.specs.Replies.{last_tag}
use Rattle.inorder.specs.Steps.{let_operand, linked, new_tenant}
use Rattle.inorder.specs.Tenants.{IsNotLive, IsThere, Linked, Tenant, operand}
use Rattle.inorder.specs.Unit.{Sizes, UpdateUnit, at, creator, older, value_of}
use Rattle.inorder.proofs.Creators.{at_cases, value_by}
use Rattle.inorder.proofs.Histories.{allowed_steps, lasts, unit_lasts, unit_sound}
use Rattle.inorder.proofs.Moves.{Backward, Goes, IsActed, IsLeft, at_changed, came, goes}

-- What a link changes

pub source_same : (j k : Source) → (j ≡ k) ⊎ (j ≢ k)
source_same First First = inl refl
source_same First Second = inr (λ e. cc e)
source_same Second First = inr (λ e. cc e)
source_same Second Second = inl refl

pub linked_way : (ts : List Tenant) (k : Source) (t : Tenant) → (operand k (linked ts t k)).way ≡ Linked (is_none (value_of ts (operand k t).creator))
linked_way ts First t = refl
linked_way ts Second t = refl

pub other_way : (ts : List Tenant) (j k : Source) (t : Tenant) → j ≢ k → (operand j (linked ts t k)).way ≡ (operand j t).way
other_way ts First First t ne = absurd (ne refl)
other_way ts First Second t ne = refl
other_way ts Second First t ne = refl
other_way ts Second Second t ne = absurd (ne refl)

pub linked_creator : (ts : List Tenant) (j k : Source) (t : Tenant) → (operand j (linked ts t k)).creator ≡ (operand j t).creator
linked_creator ts First First t = refl
linked_creator ts First Second t = refl
linked_creator ts Second First t = refl
linked_creator ts Second Second t = refl

-- a new tenant has asked for nothing
pub not_linked : (P : Program) (C : Sizes) (U : UpdateUnit) (index predicted : ℕ) (first second : Supply) (k : Source) (b : Bool) →
    (operand k (new_tenant P C U index predicted first second)).way ≢ Linked b
not_linked P C U index predicted first second First b e = way_of first (creator P U.tenants (first_of (instr_of P index))) e
  where
    way_of : (w : Supply) (c : Option ℕ) → (let_operand c w).way ≢ Linked b
    way_of (Known v) c e = cc e
    way_of From c e = cc e
not_linked P C U index predicted first second Second b e = way_of second (creator P U.tenants (second_of (instr_of P index))) e
  where
    way_of : (w : Supply) (c : Option ℕ) → (let_operand c w).way ≢ Linked b
    way_of (Known v) c e = cc e
    way_of From c e = cc e

-- this is true of each tenant of a station whose source k was linked to q in time
abbrev pub AreLinked : UpdateUnit → ℕ → ℕ → Source → (Tenant → Type 0) → Type 0
AreLinked U q station k Fact =
    (p : ℕ) (t : Tenant) → at U.tenants p ≡ Some t → t.station ≡ station → (operand k t).creator ≡ Some q → (operand k t).way ≡ Linked true → Fact t

module _ (P : Program) (C : Sizes) where
  pub made_stays : (q v : ℕ) (more seen : List Entry) → IsLegal P C (more ++ seen) → HasMade (unit_of P C seen) q v → HasMade (unit_of P C (more ++ seen)) q v
  made_stays q v more seen legal made = unit_lasts P C (λ U. HasMade U q v)
      (λ U by s a ok m. let g = goes P C U by s a ok q m.tenant m.is in record { tenant = g.tenant; is = g.is; made = g.goes.made v m.made })
      more seen legal made

  -- a source of a creator that has made its value is not linked in time any more
  module _ (h : List Entry) (legal : IsLegal P C h) (by p : ℕ) (act : Act) (may : Allowed P C (unit_of P C h) by (On p act)) (q v : ℕ) (made : HasMade (unit_of P C h) q v) where
    abbrev U : UpdateUnit
    U = unit_of P C h

    abbrev V : UpdateUnit
    V = applied P C U by (On p act)

    in_time_before : (r : ℕ) (k : Source) (t' : Tenant) → at V.tenants r ≡ Some t' → (operand k t').creator ≡ Some q → (operand k t').way ≡ Linked true → (b : Backward by (On p act) U.tenants r t') →
        (operand k b.tenant).way ≡ Linked true
    in_time_before r k t' is from way b = go act refl
      where
        by_link : (j : Source) → act ≡ Link j → (operand k b.tenant).way ≡ Linked true
        by_link j e = ⊎_elim
            (λ (z : IsActed P U.tenants by p act may.tenant r b.tenant).
            let same : t' ≡ linked (older U.tenants p) may.tenant j = same_Some t' (linked (older U.tenants p) may.tenant j)
            (sym is ∙ (z.now ∙ ap (λ a. Some (changed P by a may.tenant (older U.tenants p))) e)) in ⊎_elim
            (λ (kj : k ≡ j).
            let creator_is : (operand k may.tenant).creator ≡ Some q = ap (λ x. (operand k x).creator) (sym z.tenant) ∙ (sym (b.goes.creator k) ∙ from) in
            let worth = value_by P C (taken_of h) (allowed_steps P C h legal) p q v k may.tenant made.tenant may.is creator_is made.is made.made in
            let late : (operand k t').way ≡ Linked false =
            ap (λ x. (operand k x).way) same
            ∙ (ap (λ x. (operand k (linked (older U.tenants p) may.tenant x)).way) (sym kj)
            ∙ (linked_way (older U.tenants p) k may.tenant ∙ ap (λ x. Linked (is_none x)) worth)) in
            absurd (apart (sym late ∙ way)))
            (λ (ne : k ≢ j). ap (λ x. (operand k x).way) z.tenant ∙ (sym (other_way (older U.tenants p) k j may.tenant ne) ∙ (ap (λ x. (operand k x).way) (sym same) ∙ way)))
            (source_same k j))
            (λ (z : IsLeft P U.tenants by p act r b.tenant).
            let same : t' ≡ b.tenant = same_Some t' b.tenant (sym is ∙ z.now) in
            ap (λ x. (operand k x).way) (sym same) ∙ way)
            (at_changed P U.tenants by p act may.tenant may.is r b.tenant b.is)
          where
            apart : Linked false ≡ Linked true → ⊥
            apart e = cc e

        plain : Rattle.inorder.proofs.Moves.IsNoLink (On p act) → (operand k b.tenant).way ≡ Linked true
        plain n = sym (b.goes.way n k) ∙ way

        go : (a : Act) → act ≡ a → (operand k b.tenant).way ≡ Linked true
        go (Link j) e = by_link j e
        go (Deliver j) e = plain (subst (λ a. Rattle.inorder.proofs.Moves.IsNoLinkAct a) (sym e) tt)
        go Claim e = plain (subst (λ a. Rattle.inorder.proofs.Moves.IsNoLinkAct a) (sym e) tt)
        go Finish e = plain (subst (λ a. Rattle.inorder.proofs.Moves.IsNoLinkAct a) (sym e) tt)
        go Load e = plain (subst (λ a. Rattle.inorder.proofs.Moves.IsNoLinkAct a) (sym e) tt)
        go (Retire n) e = plain (subst (λ a. Rattle.inorder.proofs.Moves.IsNoLinkAct a) (sym e) tt)
        go Squash e = plain (subst (λ a. Rattle.inorder.proofs.Moves.IsNoLinkAct a) (sym e) tt)
        go (Speculate s) e = plain (subst (λ a. Rattle.inorder.proofs.Moves.IsNoLinkAct a) (sym e) tt)
        go Mend e = plain (subst (λ a. Rattle.inorder.proofs.Moves.IsNoLinkAct a) (sym e) tt)

    pub linked_act : (c : ℕ) (k : Source) (Fact : Tenant → Type 0) → ((t t' : Tenant) → Goes by (On p act) t t' → Fact t → Fact t') → AreLinked U q c k Fact → AreLinked V q c k Fact
    linked_act c k Fact keeps all r t' is at_c from way =
        let b = came P C U by p act may (unit_sound P C h legal) r t' is in
        keeps b.tenant t' b.goes (all r b.tenant b.is (sym b.goes.station ∙ at_c) (sym (b.goes.creator k) ∙ from) (in_time_before r k t' is from way b))

  -- and what steps keep stays true of those that were
  pub linked_stay : (q v c : ℕ) (k : Source) (Fact : Tenant → Type 0) → ((by : ℕ) (s : Step) (t t' : Tenant) → Goes by s t t' → Fact t → Fact t')
      → (more seen : List Entry) → IsLegal P C (more ++ seen) → HasMade (unit_of P C seen) q v → AreLinked (unit_of P C seen) q c k Fact → AreLinked (unit_of P C (more ++ seen)) q c k Fact
  linked_stay q v c k Fact keeps more seen legal made all =
      (lasts P C (λ h. HasMade (unit_of P C h) q v × AreLinked (unit_of P C h) q c k Fact) (λ h e l x may. go h e.by e.event l may x) more seen legal (made, all)).1
    where
      go : (h : List Entry) (by : ℕ) (x : Event) → IsLegal P C h → MayAdd P C h by x → HasMade (unit_of P C h) q v × AreLinked (unit_of P C h) q c k Fact
          → HasMade (unit_of P C (entry by x ∷ h)) q v × AreLinked (unit_of P C (entry by x ∷ h)) q c k Fact
      go h by (Does (Let index predicted first second)) l may x =
          let U = unit_of P C h in
          let g = goes P C U by (Let index predicted first second) may.1 (unit_sound P C h l) q x.0.tenant x.0.is in (
            record { tenant = g.tenant; is = g.is; made = g.goes.made v x.0.made },
            λ r t is at_c from way. ⊎_elim
                (λ (old : at U.tenants r ≡ Some t). x.1 r t old at_c from way)
                (λ (new : (r ≡ length U.tenants) × (new_tenant P C U index predicted first second ≡ t)). absurd
                (not_linked P C U index predicted first second k true (ap (λ z. (operand k z).way) new.1 ∙ way)))
                (at_cases (new_tenant P C U index predicted first second) U.tenants r t is),
          )
      go h by (Does (On p act)) l may x =
          let U = unit_of P C h in
          let g = goes P C U by (On p act) may.1 (unit_sound P C h l) q x.0.tenant x.0.is in
          (record { tenant = g.tenant; is = g.is; made = g.goes.made v x.0.made }, linked_act h l by p act may.1 q v x.0 c k Fact (λ t t' m f. keeps by (On p act) t t' m f) x.1)
      go h by (Does Renew) l may x = (record { tenant = x.0.tenant; is = x.0.is; made = x.0.made }, x.1)
      go h by (Refuses r) l may x = x
      go h by (Marks m) l may x = x

  pub served_stays : (q v c : ℕ) (k : Source) (more seen : List Entry) → IsLegal P C (more ++ seen) → HasMade (unit_of P C seen) q v → IsServed (unit_of P C seen) q c k →
      IsServed (unit_of P C (more ++ seen)) q c k
  served_stays q v c k more seen legal made served =
      linked_stay q v c k (λ t. IsThere (operand k t).value ⊎ IsNotLive t)
      (λ by s t t' m f. ⊎_elim (λ (x : IsThere (operand k t).value). inl (x.0, m.value k x.0 x.1)) (λ (x : IsNotLive t). inr (λ live. x (m.live live))) f)
      more seen legal made served

  pub walked_stays : (q v : ℕ) (more seen : List Entry) → IsLegal P C (more ++ seen) → HasMade (unit_of P C seen) q v → IsWalked (unit_of P C seen) q → IsWalked (unit_of P C (more ++ seen)) q
  walked_stays q v more seen legal made walked p t k is from way =
      served_stays q v t.station k more seen legal made (λ r u at_r at_c from' way'. walked r u k at_r from' way') p t is refl from way

  -- Stations and tags

  abbrev pub AreInside : UpdateUnit → Type 0
  AreInside U = (p : ℕ) (t : Tenant) → at U.tenants p ≡ Some t → t.station < C.ring

  below_mod : (x n m : ℕ) → m < n → x % n < n
  below_mod x n m h = omega arith

  pub are_inside : (h : List Entry) → IsLegal P C h → AreInside (unit_of P C h)
  are_inside [] legal = λ p t is. absurd (cc is)
  are_inside (e ∷ h) legal = go e.by e.event legal.1 (are_inside h legal.0)
    where
      go : (by : ℕ) (x : Event) → MayAdd P C h by x → AreInside (unit_of P C h) → AreInside (unit_of P C (entry by x ∷ h))
      go by (Does (Let index predicted first second)) may all p t is = ⊎_elim
          (λ old. all p t old)
          (λ (new : (p ≡ length (unit_of P C h).tenants) × (new_tenant P C (unit_of P C h) index predicted first second ≡ t)). subst (λ (z : Tenant). z.station < C.ring) new.1
          (below_mod _ C.ring _ may.1.room))
          (at_cases (new_tenant P C (unit_of P C h) index predicted first second) (unit_of P C h).tenants p t is)
      go by (Does (On r act)) may all p t is = let b = came P C (unit_of P C h) by r act may.1 (unit_sound P C h legal.0) p t is in subst (λ z. z < C.ring) (sym b.goes.station) (all p b.tenant b.is)
      go by (Does Renew) may all p t is = all p t is
      go by (Refuses r) may all p t is = all p t is
      go by (Marks m) may all p t is = all p t is

  abbrev pub AreSmall : UpdateUnit → Type 0
  AreSmall U = (p : ℕ) (t : Tenant) → at U.tenants p ≡ Some t → t.tag < last_tag

  pub are_small : (h : List Entry) → IsLegal P C h → AreSmall (unit_of P C h)
  are_small [] legal = λ p t is. absurd (cc is)
  are_small (e ∷ h) legal = go e.by e.event legal.1 (are_small h legal.0)
    where
      go : (by : ℕ) (x : Event) → MayAdd P C h by x → AreSmall (unit_of P C h) → AreSmall (unit_of P C (entry by x ∷ h))
      go by (Does (Let index predicted first second)) may all p t is = ⊎_elim
          (λ old. all p t old)
          (λ (new : (p ≡ length (unit_of P C h).tenants) × (new_tenant P C (unit_of P C h) index predicted first second ≡ t)). subst (λ (z : Tenant). z.tag < last_tag) new.1 may.0.1)
          (at_cases (new_tenant P C (unit_of P C h) index predicted first second) (unit_of P C h).tenants p t is)
      go by (Does (On r act)) may all p t is = let b = came P C (unit_of P C h) by r act may.1 (unit_sound P C h legal.0) p t is in subst (λ z. z < last_tag) (sym b.goes.tag) (all p b.tenant b.is)
      go by (Does Renew) may all p t is = all p t is
      go by (Refuses r) may all p t is = all p t is
      go by (Marks m) may all p t is = all p t is
