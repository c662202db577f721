-- What follows the store of a link: the look at the creator's station, and the exchange.
use Rattle.std.proofs.Common.{◌≡◌, ◌≢◌, ◌⊎◌, ℕ, ◌==◌, Bool, true, false, List, [], ◌∷◌, ◌++◌, map, Some, None, refl, sym, ap, ◌∙◌, subst, inl, inr, ⊎_elim, true≢false}
use Rattle.std.proofs.lemmas.Option.{same_Some}
use prog.Atomic.{either}
use Rattle.atomic_table.proofs.Lists.{exchanged}
use Rattle.instructions.specs.Programs.{Program}
use Rattle.instructions.specs.declared.op.Kind.TheVariants.{Links}
use Rattle.inorder.specs.declared.history.Act.{Act}
use Rattle.inorder.specs.declared.history.Act.TheVariants.{Claim, Deliver, Finish, Link, Load, Mend, Retire, Speculate, Squash}
use Rattle.inorder.specs.declared.history.Entry.{Entry}
use Rattle.inorder.specs.declared.history.Event.{Event}
use Rattle.inorder.specs.declared.history.Event.TheVariants.{Does, Marks}
use Rattle.inorder.specs.declared.history.Mark.{Mark}
use Rattle.inorder.specs.declared.history.Mark.TheVariants.{Asked}
use Rattle.inorder.specs.declared.history.Source.{Source}
use Rattle.inorder.specs.declared.history.Source.TheVariants.{First, Second}
use Rattle.inorder.specs.declared.history.Step.{Step}
use Rattle.inorder.specs.declared.history.Step.TheVariants.{On}
use Rattle.inorder.specs.Callers.{HasAsked, HasMade, IsLastAt}
use Rattle.inorder.specs.History.{IsLegal, MayMark, entry, front, own, taken_of, unit_of}
use Rattle.inorder.specs.Legal.{Allowed, May, applied, changed}
use Rattle.inorder.specs.OperandWords.{operand_word, operand_word_of}
use Rattle.inorder.specs.Replies.{Has, IsDelivered}
use Rattle.inorder.specs.StationWords.{last_of, live_word, station_word, station_word_of, word_by}
use Rattle.inorder.specs.Steps.{delivered}
use Rattle.inorder.specs.Tenants.{Addr, Busy, Done, Fate, Guessed, Linked, Live, Miss, Open, Retired, Squashed, Standing, Stopped, Tenant, computed, kind_of, on_path, operand, stands_on_path}
use Rattle.inorder.specs.Unit.{Sizes, UpdateUnit, at, is_old, older, recent, tag_after, value_of, younger}
use Rattle.inorder.proofs.Creators.{are_older, value_by}
use Rattle.inorder.proofs.Ends.{Acted, at_older, exact}
use Rattle.inorder.proofs.Histories.{allowed_steps, unit_sound}
use Rattle.inorder.proofs.Letting.{IsBesides, IsBesidesAct}
use Rattle.inorder.proofs.Makers.{IsWriter, are_late, have_makers, left_when_retired, made_when_done, path_maker, stops_made, unmade_before}
use Rattle.inorder.proofs.Moves.{IsActed, IsLeft, at_changed, goes}
use Rattle.inorder.proofs.Positions.{at_below}
use Rattle.inorder.proofs.Recent.{last_of_recent}
use Rattle.inorder.proofs.Serving.{made_stays}
use Rattle.inorder.proofs.Sound.{IsSound}
use Rattle.inorder.proofs.Stations.{finished_station}
use Rattle.ruu_words.specs.declared.place.Place.{Place}
use Rattle.ruu_words.specs.declared.place.Place.TheVariants.{Operand, Station}
use Rattle.ruu_words.specs.declared.rule.Draft.{Draft}
use Rattle.ruu_words.specs.declared.rule.Draft.TheVariants.{Nothing}
use Rattle.ruu_words.specs.declared.rule.View.{View}
use Rattle.ruu_words.specs.Content.{HasValue, IsOperand, IsOperandOf, IsStation, operand_unit}
use Rattle.ruu_words.specs.Fields.{state_of, word_value}
use Rattle.ruu_words.specs.Kinds.{Answers, HasLink, IsMade, IsNamed, IsTenant, IsInTime, IsUnmade, Questions}
use Rattle.ruu_words.proofs.Building.{looks, marks}
use Rattle.ruu_words.proofs.Delivery.{by_value, delivers, link_on}
use Rattle.ruu_words.specs.Plans.{Plan, Plans}
use Rattle.ruu_words.proofs.Linking.{last_stays}
use Rattle.ruu_words.proofs.StationWords.{its_word}
use Rattle.ruu_words.proofs.Stays.{front_stays, named_stays, tenant_stays}
use Rattle.inorder.proofs.Shared.{never_guessed}

-- others than the front squash none
pub path_on : (P : Program) (by : ℕ) (act : Act) (ys : List Tenant) (t : Tenant) (ts : List Tenant) → IsBesidesAct act → May P by act ys t ts → on_path t ≡ true →
    on_path (changed P by act t ts) ≡ true
path_on P by (Link k) ys t ts b m e = absurd b
path_on P by (Deliver First) ys t ts b m e = e
path_on P by (Deliver Second) ys t ts b m e = e
path_on P by Claim ys t ts b m e = e
path_on P by Finish ys t ts b m e = ap stands_on_path (finished_station t (computed P t)).1 ∙ e
path_on P by Load ys t ts b m e = e
path_on P by (Retire n) ys t ts b m e = refl
path_on P by Squash ys t ts b m e = absurd b
path_on P by (Speculate s) ys t ts b m e = absurd b
path_on P by Mend ys t ts b m e = absurd b

-- what the front has asked
asked_stays : (P : Program) (C : Sizes) (k : Source) (q r : ℕ) (U : UpdateUnit) (by : ℕ) (s : Step) → IsBesides s → Allowed P C U by s → IsSound P U.tenants → Has U r (HasAsked k q) →
    Has (applied P C U by s) r (HasAsked k q)
asked_stays P C k q r U by s b a ok i =
    let m = goes P C U by s a ok r i.tenant i.is in
    record {
      tenant = m.tenant;
      is = m.is;
      fact = record {
        in_time = i.fact.in_time;
        way = m.goes.linked k i.fact.in_time i.fact.way;
        creator = m.goes.creator k ∙ i.fact.creator;
        path = path m.tenant m.is;
      };
    }
  where
    V : List Tenant
    V = (applied P C U by s).tenants

    path : (t : Tenant) → at V r ≡ Some t → on_path t ≡ true
    path t is = ⊎_elim
        (λ (e : at V r ≡ Some i.tenant). ap on_path (same_Some t i.tenant (sym is ∙ e)) ∙ i.fact.path)
        (λ (z : Acted P U by s V r i.tenant).
        ap on_path (same_Some t (changed P by z.act i.tenant (older U.tenants r)) (sym is ∙ z.now))
        ∙ path_on P by z.act (younger U.tenants r) i.tenant (older U.tenants r) (subst IsBesides z.step b) z.may i.fact.path)
        (exact P C U by s a r i.tenant i.is)

not_ends : (x y : ℕ) → x ≡ y → y ≢ 0 → y ≢ 4 → IsUnmade x
not_ends x y e a b = ((λ z. a (sym e ∙ z)), (λ z. b (sym e ∙ z)))

-- after a delivery its source has the value
pub value_there : (ts : List Tenant) (k : Source) (t : Tenant) → (operand k (delivered ts t k)).value ≡ value_of ts (operand k t).creator
value_there ts First t = refl
value_there ts Second t = refl

module _ (P : Program) (C : Sizes) where
  -- a plan with a mark after its events
  pub and_marks : (id : ℕ) (h : List Entry) (d : Draft) (x : Place) (new : ℕ) (Kind Kind' : List Entry → Draft → List Event → Type 0) (mark : Mark) (p : Plan P C id h d x new Kind)
      → MayMark (unit_of P C (map (entry id) p.events ++ h)) id mark → Kind' h p.draft (Marks mark ∷ p.events) → Plan P C id h d x new Kind'
  and_marks id h d x new Kind Kind' mark p may kind = record {
    events = Marks mark ∷ p.events;
    draft = p.draft;
    mine = p.mine;
    legal = (p.legal, may);
    same = p.same;
    proper = p.proper;
    here = p.here;
    else = p.else;
    kind = kind;
  }

  -- The look at the creator's station

  -- the creator u of a source of a tenant of the path, on the path too
  module _ (h : List Entry) (legal : IsLegal P C h) (r q p : ℕ) (k : Source) (i : Has (unit_of P C h) r (HasAsked k q)) (u : Tenant) (is_q : at (unit_of P C h).tenants q ≡ Some u)
      (new : is_old (unit_of P C h) q ≡ false) (at_p : u.station ≡ p) (last : IsLastAt (unit_of P C h) q p) where
    abbrev U : UpdateUnit
    U = unit_of P C h

    abbrev us : List Tenant
    us = U.tenants

    maker_waits : kind_of P u ≢ Links
    maker_waits =
        let m = have_makers P C (taken_of h) (allowed_steps P C h legal) r i.tenant k i.is (λ e. let x = sym i.fact.way ∙ e in cc x) in
        let one : q ≡ m.q = same_Some q m.q (sym i.fact.creator ∙ m.creates) in
        let same : m.tenant ≡ u = same_Some m.tenant u (sym m.is ∙ (ap (at us) (sym one) ∙ is_q)) in
        subst (λ (z : Tenant). kind_of P z ≢ Links) same m.waits

    writer : IsWriter P u
    writer =
        let low = are_older P C (taken_of h) (allowed_steps P C h legal) r i.tenant k q i.is i.fact.creator in
        path_maker P us (unit_sound P C h legal) r i.tenant k q u i.is i.fact.path i.fact.creator (at_older us r q u (at_below us r i.tenant i.is) low is_q)

    -- it has made nothing: so the link came in time
    in_time : u.made ≡ None → IsInTime U r k q
    in_time none = record { asked = record { tenant = i.tenant; is = i.is; fact = go i.fact.in_time refl }; unmade = record { tenant = u; is = is_q; fact = none } }
      where
        go : (b : Bool) → i.fact.in_time ≡ b → (operand k i.tenant).way ≡ Linked true
        go true e = i.fact.way ∙ ap Linked e
        go false e =
            let late = are_late P C (taken_of h) (allowed_steps P C h legal) r i.tenant k i.is (i.fact.way ∙ ap Linked e) in
            let one : q ≡ late.q = same_Some q late.q (sym i.fact.creator ∙ late.creates) in
            let same : late.tenant ≡ u = same_Some late.tenant u (sym late.is ∙ (ap (at us) (sym one) ∙ is_q)) in
            let made : u.made ≡ Some late.value = ap (λ (z : Tenant). z.made) (sym same) ∙ late.made in
            absurd (apart late.value (sym none ∙ made))
          where
            apart : (v : ℕ) → None ≡ Some v → ⊥
            apart v e = cc e

    -- by its word
    pub says : (n : ℕ) → IsStation (station_word C (recent U) p) n → (IsUnmade (state_of n) × IsInTime U r k q) ⊎ (IsMade (state_of n) × HasMade U q (word_value n))
    says n w = go u.standing refl
      where
        made : (v : ℕ) → u.made ≡ Some v → word_value n ≡ v → HasMade U q (word_value n)
        made v e f = record { tenant = u; is = is_q; made = e ∙ ap Some (sym f) }

        live : u.standing ≡ Live → (f : Fate) → u.fate ≡ f → IsStation (live_word u.tag f) n → (IsUnmade (state_of n) × IsInTime U r k q) ⊎ (IsMade (state_of n) × HasMade U q (word_value n))
        live l (Done v) e x = inr (inr x.state, made v (made_when_done P us (unit_sound P C h legal) q u is_q maker_waits writer v e) x.value)
        live l Open e x = inl (not_ends (state_of n) 1 x.state (λ z. cc z) (λ z. cc z), in_time (unmade_before P us (unit_sound P C h legal) q u is_q maker_waits writer Open e tt l))
        live l (Busy by) e x = inl (not_ends (state_of n) 2 x.state (λ z. cc z) (λ z. cc z), in_time (unmade_before P us (unit_sound P C h legal) q u is_q maker_waits writer (Busy by) e tt l))
        live l (Addr a) e x = inl (not_ends (state_of n) 3 x.state (λ z. cc z) (λ z. cc z), in_time (unmade_before P us (unit_sound P C h legal) q u is_q maker_waits writer (Addr a) e tt l))
        live l (Guessed a) e x = absurd (never_guessed P C h legal q u is_q a e)
        live l (Miss a) e x = inl (not_ends (state_of n) 5 x.state (λ z. cc z) (λ z. cc z), in_time (unmade_before P us (unit_sound P C h legal) q u is_q maker_waits writer (Miss a) e tt l))
        live l (Stopped c) e x = inl (not_ends (state_of n) 6 x.state (λ z. cc z) (λ z. cc z), in_time (unmade_before P us (unit_sound P C h legal) q u is_q maker_waits writer (Stopped c) e tt l))

        go : (st : Standing) → u.standing ≡ st → (IsUnmade (state_of n) × IsInTime U r k q) ⊎ (IsMade (state_of n) × HasMade U q (word_value n))
        go Live l = live l u.fate refl (its_word P C h legal q p n u is_q at_p l w)
        go Squashed gone = absurd (true≢false (sym writer.path ∙ ap stands_on_path gone))
        go Retired gone =
            let m = left_when_retired P us (unit_sound P C h legal) q u is_q maker_waits writer (λ c f. stops_made P C (taken_of h) (allowed_steps P C h legal) q u c is_q gone f) gone in
            let here : last_of (recent U) p ≡ Some u = ap (last_of (recent U)) (sym at_p) ∙ last_of_recent U q u is_q new (λ x y lt e f. last x y lt e (f ∙ at_p)) in
            let word : IsStation (station_word_of (tag_after C (recent U) p) (Some u)) n = subst (λ o. IsStation (station_word_of (tag_after C (recent U) p) o) n) here w in
            let free : IsStation (word_by (tag_after C (recent U) p) Retired u.tag u.fate u.made) n = subst (λ st. IsStation (word_by (tag_after C (recent U) p) st u.tag u.fate u.made) n) gone word in
            let value : word_value n ≡ m.0 = subst (λ o. HasValue o (word_value n)) m.1 free.value in
            inr (inl free.state, made m.0 m.2 value)

  pub question_plan : (id : ℕ) (v : View) (p g r q : ℕ) (k : Source) → id ≡ front → v.draft ≡ Nothing → Has (unit_of P C v.seen) r (HasAsked k q) → IsNamed (unit_of P C v.seen) q p g →
      IsLastAt (unit_of P C v.seen) q p
      → Plans P C id v (Station p) (λ n. n) (Questions P C r k q)
  question_plan id v p g r q k is_front none asked creator last between d legal same apart caller mine draft n small content =
      let h : List Entry = between ++ v.seen in
      let apart_front : own front between ≡ [] = subst (λ z. own z between ≡ []) is_front apart in
      let quiet : d ≡ Nothing = sym (mine is_front) ∙ none in
      let i = front_stays P C (λ U. Has U r (HasAsked k q)) (λ U by s b a ok x. asked_stays P C k q r U by s b a ok x) between v.seen legal apart_front asked in
      let j = named_stays P C q p g between v.seen legal same creator in
      let l = front_stays P C (λ U. IsLastAt U q p) (λ U by s b a ok x. last_stays P C U by s b a ok q p x) between v.seen legal apart_front last in ⊎_elim
      (λ (x : IsUnmade (state_of n) × IsInTime (unit_of P C h) r k q).
      marks P C id h d legal draft (Station p) n (Asked r k) (is_front, inr x.1.asked) content (Questions P C r k q n) (quiet, inl (x.0, refl, x.1)))
      (λ (x : IsMade (state_of n) × HasMade (unit_of P C h) q (word_value n)).
      looks P C id h d legal draft (Station p) n content (Questions P C r k q n) (quiet, inr (x.0, refl, x.1)))
      (says h legal r q p k i j.tenant j.is j.new j.station_is l n content)

  -- The exchange

  pub answer_plan : (id : ℕ) (v : View) (c g r q val old new : ℕ) (k : Source) → id ≡ front → v.draft ≡ Nothing → IsOperandOf (record { tag = g; value = None }) old →
      IsOperandOf (record { tag = g; value = Some val }) new
      → IsTenant (unit_of P C v.seen) r c g (HasLink k q) → IsLastAt (unit_of P C v.seen) r c → HasMade (unit_of P C v.seen) q val
      → Plans P C id v (Operand c k) (λ n. either (n == old) new n) (Answers P C r k old)
  answer_plan id v c g r q val old new k is_front none old_is new_is asks last made between d legal same apart caller mine draft n small content =
      let h : List Entry = between ++ v.seen in
      let U : UpdateUnit = unit_of P C h in
      let own_none : own front between ≡ [] = subst (λ z. own z between ≡ []) is_front apart in
      let i = tenant_stays P C r c g (HasLink k q) (λ by step t t' m f. link_on P C k q by step t t' m f) between v.seen legal same asks in
      let m = made_stays P C q val between v.seen legal made in
      let l = front_stays P C (λ U. IsLastAt U r c) (λ U by s b a ok x. last_stays P C U by s b a ok r c x) between v.seen legal own_none last in
      let quiet : d ≡ Nothing = sym (mine is_front) ∙ none in
      exchanged n old new (λ z. Plan P C id h d (Operand c k) z (Answers P C r k old n))
      (λ hit.
      let plan = delivers P C id h d legal draft c k g val old n new r q old_is new_is i m hit content (λ h d events. (d ≡ Nothing) × (events ≡ Does (On r (Deliver k)) ∷ [])) (quiet, refl) in
      and_marks id h d (Operand c k) new (λ h d events. (d ≡ Nothing) × (events ≡ Does (On r (Deliver k)) ∷ [])) (Answers P C r k old n) (Asked r k) plan
      (subst (λ (es : List Event). MayMark (unit_of P C (map (entry id) es ++ h)) id (Asked r k)) (sym plan.kind.1) (is_front, inl (there id h legal r q val k i.tenant i.is i.fact.creator m)))
      (plan.kind.0, inl (hit, ap (λ (es : List Event). Marks (Asked r k) ∷ es) plan.kind.1)))
      (λ miss.
      let here : last_of (recent U) c ≡ Some i.tenant = ap (last_of (recent U)) (sym i.station_is) ∙ last_of_recent U r i.tenant i.is i.new (λ x y lt e f. l x y lt e (f ∙ i.station_is)) in
      let word : IsOperand (operand_word (recent U) c k) n = subst (λ (z : Draft). IsOperand (operand_word (recent (operand_unit P C U z k)) c k) n) quiet content in
      let its : IsOperandOf (record { tag = i.tenant.tag; value = (operand k i.tenant).value }) n = subst (λ o. IsOperand (operand_word_of k o) n) here word in
      let its' : IsOperandOf (record { tag = g; value = (operand k i.tenant).value }) n = subst (λ z. IsOperandOf (record { tag = z; value = (operand k i.tenant).value }) n) i.tag_is its in
      let had : IsDelivered U r k = record { tenant = i.tenant; is = i.is; fact = by_value P C g (operand k i.tenant).value n old old_is its' miss } in
      marks P C id h d legal draft (Operand c k) n (Asked r k) (is_front, inl had) content (Answers P C r k old n) (quiet, inr (miss, refl, had)))
    where
      there : (id : ℕ) (h : List Entry) (legal : IsLegal P C h) (r q val : ℕ) (k : Source) (t : Tenant) → at (unit_of P C h).tenants r ≡ Some t → (operand k t).creator ≡ Some q →
          HasMade (unit_of P C h) q val
          → IsDelivered (applied P C (unit_of P C h) id (On r (Deliver k))) r k
      there id h legal r q val k t is from m =
          let us = (unit_of P C h).tenants in
          let worth = value_by P C (taken_of h) (allowed_steps P C h legal) r q val k t m.tenant is from m.is m.made in ⊎_elim
          (λ (z : IsActed P us id r (Deliver k) t r t). record { tenant = delivered (older us r) t k; is = z.now; fact = (val, value_there (older us r) k t ∙ worth) })
          (λ (z : IsLeft P us id r (Deliver k) r t). absurd (z.position refl))
          (at_changed P us id r (Deliver k) t is r t is)
