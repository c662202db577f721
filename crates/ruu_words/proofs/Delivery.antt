-- The exchange with which a value reaches an operand.
use Rattle.std.proofs.Common.{◌≡◌, ◌≢◌, ◌⊎◌, ℕ, ◌==◌, Bool, true, false, cond, eqb, List, [], ◌∷◌, ◌++◌, length, Option, Some, None, refl, sym, ap, ◌∙◌, subst, inl, inr, ⊎_elim, arith}
use mathlib.Core.Logic.{dite}
use native.Mathlib.Decide.{ℕ_discrete}
use prog.Atomic.{either}
use Rattle.atomic_table.proofs.Lists.{exchanged}
use Rattle.instructions.specs.Programs.{Program}
use Rattle.inorder.specs.declared.history.Act.TheVariants.{Deliver}
use Rattle.inorder.specs.declared.history.Entry.{Entry}
use Rattle.inorder.specs.declared.history.Event.{Event}
use Rattle.inorder.specs.declared.history.Event.TheVariants.{Does}
use Rattle.inorder.specs.declared.history.Source.{Source}
use Rattle.inorder.specs.declared.history.Step.{Step}
use Rattle.inorder.specs.declared.history.Step.TheVariants.{On}
use Rattle.inorder.specs.Callers.{HasMade}
use Rattle.inorder.specs.History.{IsLegal, taken_of, unit_of}
use Rattle.inorder.specs.Legal.{Allowed, applied}
use Rattle.inorder.specs.OperandWords.{operand_word, operand_word_of}
use Rattle.inorder.specs.Replies.{IsDelivered}
use Rattle.inorder.specs.StationWords.{last_of}
use Rattle.inorder.specs.Steps.{new_tenant}
use Rattle.inorder.specs.Tenants.{Live, Retired, Squashed, Standing, Tenant, operand}
use Rattle.inorder.specs.Unit.{Sizes, UpdateUnit, at, is_old, recent}
use Rattle.inorder.proofs.Creators.{value_by}
use Rattle.inorder.proofs.Moves.{Goes}
use Rattle.inorder.proofs.OperandsShown.{operands_follow}
use Rattle.inorder.proofs.Positions.{at_below, at_more, at_new}
use Rattle.inorder.proofs.Recent.{IsRecentAt, recent_at}
use Rattle.inorder.proofs.Serving.{made_stays, source_same}
use Rattle.inorder.proofs.StationsShown.{stations_follow}
use Rattle.inorder.proofs.Tags.{AreTagged, names_one, tagged}
use Rattle.ruu_words.specs.declared.place.Place.{Place}
use Rattle.ruu_words.specs.declared.place.Place.TheVariants.{Info, Link, Operand, Station}
use Rattle.ruu_words.specs.declared.rule.Draft.{Draft}
use Rattle.ruu_words.specs.declared.rule.Draft.TheVariants.{Nothing, Of}
use Rattle.ruu_words.specs.declared.rule.View.{View}
use Rattle.ruu_words.specs.Content.{Content, IsDraft, IsOperand, IsOperandOf, IsStation, has_operand, operand_unit, with_new}
use Rattle.ruu_words.specs.Fields.{state_of, tag_of}
use Rattle.ruu_words.specs.Kinds.{Delivers, HasLink, IsTenant}
use Rattle.ruu_words.proofs.Building.{looks}
use Rattle.ruu_words.specs.Plans.{Plan, Plans}
use Rattle.ruu_words.proofs.Groups.{SameDraft, draft_stays, info_stays, link_other, operand_drafted}
use Rattle.inorder.proofs.Histories.{allowed_steps, unit_sound}
use Rattle.ruu_words.proofs.Packing.{same_word}
use Rattle.ruu_words.proofs.Reading.{Among, among, has_last, its_operand, operand_last, waits}
use Rattle.ruu_words.proofs.StationWords.{find_last}
use Rattle.ruu_words.proofs.Stays.{named_of, tenant_stays}

module _ (P : Program) (C : Sizes) where
  pub link_on : (k : Source) (q : ℕ) (by : ℕ) (s : Step) (t t' : Tenant) → Goes by s t t' → HasLink k q t → HasLink k q t'
  link_on k q by s t t' m l = record { in_time = l.in_time; way = m.linked k l.in_time l.way; creator = m.creator k ∙ l.creator }

  -- where an operand word has the tag of a tenant, that tenant is the last one that these words follow
  its_last : (h : List Entry) (legal : IsLegal P C h) (W : List Tenant) → Among P C h legal W → (s : ℕ) (k : Source) (n : ℕ) → IsOperand (operand_word W s k) n → (p : ℕ) (t : Tenant) →
      at (unit_of P C h).tenants p ≡ Some t → is_old (unit_of P C h) p ≡ false → t.station ≡ s → t.tag ≡ tag_of n → last_of W s ≡ Some t
  its_last h legal W a s k n word p t is new station_is tag_is = go (last_of W s) refl word
    where
      go : (o : Option Tenant) → last_of W s ≡ o → IsOperand (operand_word_of k o) n → last_of W s ≡ Some t
      go None e w = let x = a.there p t is new in absurd (has_last W x.r t x.is (ap (last_of W) station_is ∙ e))
      go (Some l) e w =
          let f = find_last W s l e in
          let x = a.there p t is new in
          let same : x.r ≡ f.0 = names_one C W x.r f.0 t l a.tagged_all x.is f.1 (station_is ∙ sym f.2) (tag_is ∙ w.tag) in
          e ∙ (sym f.1 ∙ (ap (at W) (sym same) ∙ x.is))

  module _ (h : List Entry) (legal : IsLegal P C h) (p s : ℕ) (t : Tenant) (is : at (unit_of P C h).tenants p ≡ Some t) (new : is_old (unit_of P C h) p ≡ false) where
    abbrev U : UpdateUnit
    U = unit_of P C h

    abbrev us : List Tenant
    us = recent U

    abbrev x : IsRecentAt U p t
    x = recent_at U p t is new

    -- the tenant in progress is another
    not_new : (n : Tenant) → AreTagged C (n ∷ us) → eqb n.station s ≡ true → cond (eqb n.station s) (Some n) (last_of us s) ≡ Some t → ⊥
    not_new n tags e last =
        let one : Some n ≡ Some t = ap (λ b. cond b (Some n) (last_of us s)) (sym e) ∙ last in
        let same : n ≡ t = cc one in
        let below = at_below us x.r t x.is in
        let position : x.r ≡ length us = names_one C (n ∷ us) x.r (length us) t n tags (at_more n us x.r t x.is) (at_new n us) (ap (λ (x : Tenant). x.station) (sym same))
        (ap (λ (x : Tenant). x.tag) (sym same)) in
        omega arith

    last_there : (d : Draft) (k : Source) → last_of (recent (operand_unit P C U d k)) s ≡ Some t → last_of us s ≡ Some t
    last_there Nothing k e = e
    last_there (Of stage index predicted first second) k e = go (has_operand stage k) e
      where
        n : Tenant
        n = new_tenant P C U index predicted first second

        mid : (b : Bool) → eqb n.station s ≡ b → cond (eqb n.station s) (Some n) (last_of us s) ≡ Some t → last_of us s ≡ Some t
        mid true f e = absurd (not_new n (refl, tagged P C (taken_of h) (allowed_steps P C h legal)) f e)
        mid false f e = ap (λ b. cond b (Some n) (last_of us s)) (sym f) ∙ e

        go : (b : Bool) → last_of (recent (cond b (with_new P C U index predicted first second) U)) s ≡ Some t → last_of us s ≡ Some t
        go true e = mid (eqb n.station s) refl e
        go false e = e

    -- so the new word of the operand is there after the tenant in progress too
    behind_draft : (V : UpdateUnit) (d : Draft) (k : Source) (new : ℕ) → SameDraft P C U V d → last_of (recent (operand_unit P C U d k)) s ≡ Some t → IsOperand (operand_word (recent V) s k) new →
        IsOperand (operand_word (recent (operand_unit P C V d k)) s k) new
    behind_draft V Nothing k new same e w = w
    behind_draft V (Of stage index predicted first second) k new same e w = go (has_operand stage k) e
      where
        n : Tenant
        n = new_tenant P C U index predicted first second

        n' : Tenant
        n' = new_tenant P C V index predicted first second

        mid : (b : Bool) → eqb n.station s ≡ b → cond (eqb n.station s) (Some n) (last_of us s) ≡ Some t → IsOperand (operand_word_of k (cond (eqb n'.station s) (Some n') (last_of (recent V) s))) new
        mid true f e = absurd (not_new n (refl, tagged P C (taken_of h) (allowed_steps P C h legal)) f e)
        mid false f e = subst (λ b. IsOperand (operand_word_of k (cond b (Some n') (last_of (recent V) s))) new) (sym (ap (λ (x : Tenant). eqb x.station s) same ∙ f)) w

        go : (b : Bool) → last_of (recent (cond b (with_new P C U index predicted first second) U)) s ≡ Some t →
            IsOperand (operand_word (recent (cond b (with_new P C V index predicted first second) V)) s k) new
        go true e = mid (eqb n.station s) refl e
        go false e = w

  -- the words of the other places
  others : (id : ℕ) (h : List Entry) (d : Draft) (legal : IsLegal P C h) → IsDraft P C (unit_of P C h) d → (r s : ℕ) (k : Source) (t : Tenant) → at (unit_of P C h).tenants r ≡ Some t → t.station ≡ s →
      (may : Allowed P C (unit_of P C h) id (On r (Deliver k)))
      → (y : Place) (n : ℕ) → y ≢ Operand s k → Content P C (unit_of P C h) d y n → Content P C (applied P C (unit_of P C h) id (On r (Deliver k))) d y n
  others id h d legal draft r s k t is station_is may (Station x) n other c =
      subst (λ z. IsStation z n) (sym (((stations_follow P C (taken_of h) id).moves (allowed_steps P C h legal)).kept r (Deliver k) x tt may)) c
  others id h d legal draft r s k t is station_is may (Info x) n other c =
      info_stays P C (unit_of P C h) id r (Deliver k) may (unit_sound P C h legal) d (draft_stays P C (unit_of P C h) id (On r (Deliver k)) d (inr tt) may (unit_sound P C h legal) draft).1 x n c
  others id h d legal draft r s k t is station_is may (Operand x j) n other c =
      let U = unit_of P C h in
      let apart : (is_old U r ≡ true) ⊎ (last_of (recent U) x ≢ Some t) ⊎ (j ≢ k) = dite (ℕ_discrete x s)
      (λ e. ⊎_elim (λ f. absurd (other (λ i. Operand (e i) (f i)))) (λ ne. inr (inr ne)) (source_same j k))
      (λ ne. inr (inl (λ e. let f = find_last (recent U) x t e in ne (sym f.2 ∙ station_is)))) in
      operand_drafted P C U (applied P C U id (On r (Deliver k))) x j n ((operands_follow P C (taken_of h) id (allowed_steps P C h legal)).elsewhere r k t x j may is apart) d
      (draft_stays P C U id (On r (Deliver k)) d (inr tt) may (unit_sound P C h legal) draft).1 c
  others id h d legal draft r s k t is station_is may (Link x c k') n other l = link_other P C (unit_of P C h) id r (Deliver k) tt may (unit_sound P C h legal) x c k' n l

  pub by_value : (g : ℕ) (o : Option ℕ) (n old : ℕ) → IsOperandOf (record { tag = g; value = None }) old → IsOperandOf (record { tag = g; value = o }) n → n ≢ old → (w : ℕ) × (o ≡ Some w)
  by_value g None n old a b ne = absurd (ne (same_word n old (b.tag ∙ sym a.tag) (b.state ∙ sym a.state) (b.value ∙ sym a.value)))
  by_value g (Some w) n old a b ne = (w, refl)

  -- where the word is another, the source has its value, or its tenant has left
  pub settled : (h : List Entry) (legal : IsLegal P C h) (d : Draft) → IsDraft P C (unit_of P C h) d → (s : ℕ) (k : Source) (g old n : ℕ) → IsOperandOf (record { tag = g; value = None }) old →
      IsOperand (operand_word (recent (operand_unit P C (unit_of P C h) d k)) s k) n → n ≢ old
      → (r : ℕ) (t : Tenant) → at (unit_of P C h).tenants r ≡ Some t → t.station ≡ s → t.tag ≡ g → IsDelivered (unit_of P C h) r k ⊎ (t.standing ≢ Live)
  settled h legal d draft s k g old n old_is content miss r t is station_is tag_is = go t.standing refl
    where
      go : (st : Standing) → t.standing ≡ st → IsDelivered (unit_of P C h) r k ⊎ (t.standing ≢ Live)
      go Live live =
          let last = operand_last P C h legal d k draft r t is live in
          let w : IsOperandOf (record { tag = t.tag; value = (operand k t).value }) n = subst (λ o. IsOperand (operand_word_of k o) n)
          (ap (last_of (recent (operand_unit P C (unit_of P C h) d k))) (sym station_is) ∙ last) content in
          let w' : IsOperandOf (record { tag = g; value = (operand k t).value }) n = subst (λ z. IsOperandOf (record { tag = z; value = (operand k t).value }) n) tag_is w in
          inl (record { tenant = t; is = is; fact = by_value g (operand k t).value n old old_is w' miss })
      go Retired e = inr (λ live. let x = sym e ∙ live in cc x)
      go Squashed e = inr (λ live. let x = sym e ∙ live in cc x)

  -- A delivery that finds the word of the operand that waits: `more` are events that it adds after itself
  module _ (id : ℕ) (h : List Entry) (d : Draft) (legal : IsLegal P C h) (draft : IsDraft P C (unit_of P C h) d) (s : ℕ) (k : Source) (g val old n new r q : ℕ)
      (old_is : IsOperandOf (record { tag = g; value = None }) old) (new_is : IsOperandOf (record { tag = g; value = Some val }) new)
      (i : IsTenant (unit_of P C h) r s g (HasLink k q)) (made : HasMade (unit_of P C h) q val) (hit : n ≡ old)
      (content : IsOperand (operand_word (recent (operand_unit P C (unit_of P C h) d k)) s k) n) where
    is_new : is_old (unit_of P C h) r ≡ false
    is_new = i.new

    tag_found : i.tenant.tag ≡ tag_of n
    tag_found = i.tag_is ∙ (sym old_is.tag ∙ sym (ap tag_of hit))

    worth : Rattle.inorder.specs.Unit.value_of (Rattle.inorder.specs.Unit.older (unit_of P C h).tenants r) (operand k i.tenant).creator ≡ Some val
    worth = value_by P C (taken_of h) (allowed_steps P C h legal) r q val k i.tenant made.tenant i.is i.fact.creator made.is made.made

    may : Allowed P C (unit_of P C h) id (On r (Deliver k))
    may =
        let state : state_of n ≡ 1 = ap state_of hit ∙ old_is.state in
        let word = its_operand P C h legal (recent (operand_unit P C (unit_of P C h) d k)) (among P C h legal d k) s k n content r i.tenant i.is is_new i.station_is tag_found in
        let none = waits i.tenant.tag (operand k i.tenant).value n word (omega arith) in
        record { tenant = i.tenant; is = i.is; may = record { in_time = i.fact.in_time; way = i.fact.way; waits = none; value = val; is_made = worth } }

    pub delivers : (Kind : List Entry → Draft → List Event → Type 0) → Kind h d (Does (On r (Deliver k)) ∷ []) → Plan P C id h d (Operand s k) new Kind
    delivers Kind kind =
        let U : UpdateUnit = unit_of P C h in
        let t : Tenant = i.tenant in
        let V : UpdateUnit = applied P C U id (On r (Deliver k)) in
        let last = its_last h legal (recent (operand_unit P C U d k)) (among P C h legal d k) s k n content r t i.is is_new i.station_is tag_found in
        let there = last_there h legal r s t i.is is_new d k last in
        let stay = draft_stays P C U id (On r (Deliver k)) d (inr tt) may (unit_sound P C h legal) draft in
        let moved = (operands_follow P C (taken_of h) id (allowed_steps P C h legal)).to_last r k t may i.is is_new (ap (last_of (recent U)) i.station_is ∙ there) in
        let here : operand_word (recent V) s k ≡ Some (record { tag = g; value = Some val }) =
        ap (λ z. operand_word (recent V) z k) (sym i.station_is) ∙ (moved ∙ (λ j. Some (record { tag = i.tag_is j; value = worth j }))) in
        record {
          events = Does (On r (Deliver k)) ∷ [];
          draft = d;
          mine = λ _. refl;
          legal = (legal, (tt, may));
          same = refl;
          proper = stay.0;
          here = behind_draft h legal r s t i.is is_new V d k new stay.1 last (subst (λ o. IsOperand o new) (sym here) new_is);
          else = λ y m _ other c. others id h d legal draft r s k t i.is i.station_is may y m other c;
          kind = kind;
        }

  pub deliver_plan : (id : ℕ) (v : View) (s : ℕ) (k : Source) (g val old new r q : ℕ) → IsOperandOf (record { tag = g; value = None }) old → IsOperandOf (record { tag = g; value = Some val }) new
      → IsTenant (unit_of P C v.seen) r s g (HasLink k q) → HasMade (unit_of P C v.seen) q val → Plans P C id v (Operand s k) (λ n. either (n == old) new n) (Delivers P C s k g old)
  deliver_plan id v s k g val old new r q old_is new_is asks made between d legal same apart caller mine draft n small content =
      let h : List Entry = between ++ v.seen in
      let i = tenant_stays P C r s g (HasLink k q) (λ by step t t' m f. link_on k q by step t t' m f) between v.seen legal same asks in
      let m = made_stays P C q val between v.seen legal made in
      exchanged n old new (λ z. Plan P C id h d (Operand s k) z (Delivers P C s k g old n))
      (λ hit. delivers id h d legal draft s k g val old n new r q old_is new_is i m hit content (Delivers P C s k g old n)
      (inl (hit, record { p = r; tenant = named_of i; added = refl })))
      (λ miss. looks P C id h d legal draft (Operand s k) n content (Delivers P C s k g old n)
      (inr (miss, refl, λ r' t' is' station' tag'. settled h legal d draft s k g old n old_is content miss r' t' is' station' tag')))
