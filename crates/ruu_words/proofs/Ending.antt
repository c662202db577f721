-- The loads of a retirement, and its refusals.
use Rattle.std.proofs.Common.{◌≡◌, ◌≢◌, ◌⊎◌, ℕ, ◌<◌, List, [], ◌++◌, Option, Some, None, refl, sym, ◌∙◌, subst, inl, inr, ⊎_elim}
use mathlib.Core.Logic.{dite}
use native.Mathlib.Decide.{ℕ_discrete}
use Rattle.std.specs.List.{AllByRecursion}
use Rattle.instructions.specs.Programs.{Program}
use Rattle.instructions.specs.declared.op.Kind.{Kind}
use Rattle.inorder.specs.declared.history.Entry.{Entry}
use Rattle.inorder.specs.declared.history.Refusal.TheVariants.{Empty, NotDone, Over}
use Rattle.inorder.specs.declared.history.Source.TheVariants.{Second}
use Rattle.inorder.specs.Callers.{GoesOn, IsHead, head_station}
use Rattle.inorder.specs.History.{IsLegal, back, own, taken_of, unit_of}
use Rattle.inorder.specs.OperandWords.{operand_word}
use Rattle.inorder.specs.Replies.{IsNotDone, IsOver}
use Rattle.inorder.specs.StationWords.{last_of, live_word, station_word, station_word_of, word_by}
use Rattle.inorder.specs.Steps.{CanRetire, IsNoRetiredStop}
use Rattle.inorder.specs.Tenants.{Addr, Busy, Done, Fate, Guessed, IsNotLive, IsThere, Live, Miss, Open, Retired, Squashed, Standing, Stopped, Tenant, kind_of}
use Rattle.inorder.specs.Unit.{Sizes, UpdateUnit, at, recent, tag_after}
use Rattle.inorder.proofs.Heads.{HasAddr, Oldest, addr_head_stays, find_oldest, goes_on_stays, head_at, head_stays, over_stays}
use Rattle.inorder.proofs.Histories.{allowed_steps, unit_lasts, unit_sound}
use Rattle.inorder.proofs.Positions.{all_at, all_from, at_below, older_from}
use Rattle.inorder.proofs.Recent.{live_is_recent, old_are_gone}
use Rattle.inorder.proofs.Stations.{all_newest, is_ring, stands}
use Rattle.ruu_words.specs.declared.place.Place.{Place}
use Rattle.ruu_words.specs.declared.place.Place.TheVariants.{Operand, Station}
use Rattle.ruu_words.specs.declared.rule.Draft.{Draft}
use Rattle.ruu_words.specs.declared.rule.Role.TheVariants.{Back}
use Rattle.ruu_words.specs.declared.rule.View.{View}
use Rattle.ruu_words.specs.Content.{IsDraft, IsOperand, IsStation, operand_unit}
use Rattle.ruu_words.specs.Fields.{state_of, tag_of}
use Rattle.ruu_words.specs.Kinds.{Heads, IsEarly, IsLate, ReadsData, Tells}
use Rattle.ruu_words.specs.Views.{IsCaller}
use Rattle.ruu_words.proofs.Building.{looks, tells}
use Rattle.ruu_words.specs.Plans.{Plans}
use Rattle.ruu_words.proofs.Reading.{among, delivered, its_operand, not_live, waits}
use Rattle.ruu_words.proofs.StationWords.{find_last, its_word}
use Rattle.ruu_words.proofs.Stays.{back_stays}

-- A word by its tenant's fate: it cannot retire yet, or it has come to its end
early_or_late : (g n : ℕ) (f : Fate) → IsStation (live_word g f) n → (IsEarly (state_of n) × ((k : Kind) (b : Option ℕ) → ¬ CanRetire k b f)) ⊎ IsLate (state_of n)
early_or_late g n Open w = inl (inl w.state, λ k b c. c)
early_or_late g n (Busy by) w = inl (inr (inl w.state), λ k b c. c)
early_or_late g n (Addr a) w = inr (inl w.state)
early_or_late g n (Done v) w = inr (inr (inl w.state))
early_or_late g n (Guessed v) w = inl (inr (inl w.state), λ k b c. c)
early_or_late g n (Miss x) w = inl (inr (inr w.state), λ k b c. c)
early_or_late g n (Stopped c) w = inr (inr (inr w.state))

-- a station of no live tenant is free
free_word : (C : Sizes) (ts : List Tenant) (s n : ℕ) → AllByRecursion IsNotLive ts → IsStation (station_word C ts s) n → state_of n ≡ 0
free_word C ts s n none w = go (last_of ts s) refl w
  where
    gone : (t : Tenant) → t.standing ≢ Live → (st : Standing) → t.standing ≡ st → IsStation (word_by (tag_after C ts s) st t.tag t.fate t.made) n → state_of n ≡ 0
    gone t not Live e w = absurd (not e)
    gone t not Retired e w = w.state
    gone t not Squashed e w = w.state

    go : (o : Option Tenant) → last_of ts s ≡ o → IsStation (station_word_of (tag_after C ts s) o) n → state_of n ≡ 0
    go None e w = w.state
    go (Some t) e w = let f = find_last ts s t e in gone t (all_at IsNotLive ts none f.0 t f.1) t.standing refl w

module _ (P : Program) (C : Sizes) where
  not_done : (h : List Entry) (p : ℕ) (t : Tenant) → at (unit_of P C h).tenants p ≡ Some t → t.standing ≡ Live →
      ((q : ℕ) (u : Tenant) → q < p → at (unit_of P C h).tenants q ≡ Some u → u.standing ≢ Live) → GoesOn (unit_of P C h) → ¬ CanRetire (kind_of P t) t.second.value t.fate →
      IsNotDone P (unit_of P C h)
  not_done h p t is live oldest goes_on stays = record {
    goes_on = all_from IsNoRetiredStop (unit_of P C h).tenants goes_on;
    p = p;
    tenant = t;
    is = is;
    live = live;
    oldest = older_from IsNotLive (unit_of P C h).tenants p (at_below (unit_of P C h).tenants p t is) (λ q u lt e. oldest q u lt e);
    stays = stays;
  }

  -- A refusal that is true of what the back has seen

  pub over_plan : (id : ℕ) (v : View) (x : Place) → v.role ≡ Back → IsOver (unit_of P C v.seen) → Plans P C id v x (λ n. n) (λ _. Tells P C Over)
  over_plan id v x role over between d legal same apart caller mine draft n small content =
      let h : List Entry = between ++ v.seen in
      let is_back : id ≡ back = subst (λ r. IsCaller r id) role caller in
      let now = unit_lasts P C IsOver (λ U by s a ok o. over_stays P C U by s a o) between v.seen legal over in
      tells P C id h d legal draft x n Over (is_back, now) content (Tells P C Over) (record { added = refl })

  pub head_plan : (id : ℕ) (v : View) (s : ℕ) → v.role ≡ Back → head_station C (unit_of P C v.seen) ≡ s → GoesOn (unit_of P C v.seen) → Plans P C id v (Station s) (λ n. n) (Heads P C s)
  head_plan id v s role at_s goes_on between d legal same apart caller mine draft n small content =
      let h : List Entry = between ++ v.seen in
      let U : UpdateUnit = unit_of P C h in
      let is_back : id ≡ back = subst (λ r. IsCaller r id) role caller in
      let none : own back between ≡ [] = subst (λ z. own z between ≡ []) is_back apart in
      let here : head_station C U ≡ s = back_stays P C (λ U. head_station C U ≡ s) (λ U by st b a ok q. head_stays P C U by st b a ∙ q) between v.seen legal same none at_s in
      let on : GoesOn U = back_stays P C GoesOn (λ U by st b a ok q. goes_on_stays P C U by st b a ok q) between v.seen legal same none goes_on in ⊎_elim
      (λ (empty : AllByRecursion IsNotLive U.tenants).
      tells P C id h d legal draft (Station s) n Empty (is_back, record { goes_on = all_from IsNoRetiredStop U.tenants on; none = empty }) content (Heads P C s n)
      (inl (free_word C (recent U) s n (all_newest IsNotLive U.fresh U.tenants empty) content, refl)))
      (λ (o : Oldest U.tenants).
      let t : Tenant = o.tenant in
      let station_is : t.station ≡ s = head_at P C U (unit_sound P C h legal) (is_ring C (recent U) (stands P C (taken_of h) (allowed_steps P C h legal))) (old_are_gone P C h legal) o ∙ here in
      let w = its_word P C h legal o.p s n t o.is station_is o.live content in ⊎_elim
      (λ early. tells P C id h d legal draft (Station s) n NotDone (is_back, not_done h o.p t o.is o.live o.oldest on (early.1 (kind_of P t) t.second.value)) content (Heads P C s n)
      (inr (inl (early.0, refl))))
      (λ late. looks P C id h d legal draft (Station s) n content (Heads P C s n)
      (inr (inr (late, refl, (o.p, record { tenant = t; is = o.is; live = o.live; oldest = o.oldest; goes_on = on; fact = (station_is, w) })))))
      (early_or_late t.tag n t.fate w))
      (find_oldest U.tenants)

  -- the data of the oldest store
  pub data_plan : (id : ℕ) (v : View) (p s g index a : ℕ) → v.role ≡ Back → IsHead (unit_of P C v.seen) p (HasAddr s g index a)
      → Plans P C id v (Operand s Second) (λ n. n) (ReadsData P C p)
  data_plan id v p s g index a role head between d legal same apart caller mine draft n small content =
      let h : List Entry = between ++ v.seen in
      let is_back : id ≡ back = subst (λ r. IsCaller r id) role caller in
      let i = back_stays P C (λ U. IsHead U p (HasAddr s g index a)) (λ U by st b may ok q. addr_head_stays P C U by st b may ok p s g index a q) between v.seen legal same
      (subst (λ z. own z between ≡ []) is_back apart) head in
      let t : Tenant = i.tenant in
      let says = its_operand P C h legal (recent (operand_unit P C (unit_of P C h) d Second)) (among P C h legal d Second) s Second n content p t i.is (live_is_recent P C h legal p t i.is i.live)
      i.fact.station_is in
      let tagged : t.tag ≡ tag_of n = tag_here h d legal draft s n content p t i.is i.fact.station_is i.live in
      let w = says tagged in
      dite (ℕ_discrete (state_of n) 2)
      (λ there. looks P C id h d legal draft (Operand s Second) n content (ReadsData P C p n)
      (inl (there, refl, record { tenant = t; is = i.is; live = i.live; oldest = i.oldest; goes_on = i.goes_on; fact = delivered t.tag t.second.value n w there })))
      (λ not. tells P C id h d legal draft (Operand s Second) n NotDone
      (is_back, not_done h p t i.is i.live i.oldest i.goes_on (λ c. no_data (kind_of P t) t.second.value t.fate (waits t.tag t.second.value n w not) i.fact.fate c)) content (ReadsData P C p n)
      (inr (not, refl)))
    where
      no_data : (k : Kind) (b : Option ℕ) (f : Fate) → b ≡ None → f ≡ Addr a → CanRetire k b f → ⊥
      no_data k b f e g c = let c' : CanRetire k b (Addr a) = subst (CanRetire k b) g c in let there : IsThere b = c'.1 in let x = sym e ∙ there.1 in cc x

      tag_here : (h : List Entry) (d : Draft) (legal : IsLegal P C h) → IsDraft P C (unit_of P C h) d → (s n : ℕ)
          → IsOperand (operand_word (recent (operand_unit P C (unit_of P C h) d Second)) s Second) n
          → (p : ℕ) (t : Tenant) → at (unit_of P C h).tenants p ≡ Some t → t.station ≡ s → t.standing ≡ Live → t.tag ≡ tag_of n
      tag_here h d legal draft s n content p t is at_s live = dite (ℕ_discrete t.tag (tag_of n)) (λ e. e) (λ ne. absurd (not_live P C h legal d draft s Second n content p t is at_s ne live))
