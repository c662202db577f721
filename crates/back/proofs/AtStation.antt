-- The live tenant of a station, by what the station shows.
use Rattle.std.proofs.Common.{◌≡◌, ◌≢◌, ℕ, Bool, true, false, cond, eqb, eqb-true, List, [], Some, None, refl, sym, ap, ◌∙◌, subst, inl, inr}
use Rattle.std.proofs.Common.{arith}
use Rattle.std.proofs.lemmas.Bool.{cases_lt}
use Rattle.instructions.specs.Programs.{Program}
use Rattle.inorder.specs.declared.history.Entry.{Entry}
use Rattle.inorder.specs.History.{IsLegal, back, taken_of, unit_of}
use Rattle.inorder.specs.OneHistory.{Adds}
use Rattle.inorder.specs.Replies.{Has}
use Rattle.inorder.specs.StationWords.{IsAddr, IsBusy, IsDone, IsFree, IsMiss, IsOpen, IsStop, HasFate, StationState as State, live_word, station_word}
use Rattle.inorder.specs.Tenants.{Addr, Busy, Done, Fate, Guessed, Live, Miss, Open, Stopped, Tenant}
use Rattle.inorder.specs.Unit.{Sizes, at, recent, younger}
use Rattle.inorder.proofs.Histories.{allowed_steps}
use Rattle.inorder.proofs.Positions.{younger_at}
use Rattle.inorder.proofs.StationsShown.{stations_follow}
use Rattle.ruu_words.specs.declared.station.StationState.{StationState}
use Rattle.ruu_words.specs.Content.{HasValue, code}
use Rattle.ruu_words.specs.States.{state_code}
use Rattle.station.specs.Looking.{Shows}
use Rattle.back.specs.Loads.{IsWaitingLoad}
use Rattle.back.specs.Port.{address_in, shown_address}
use Rattle.back.specs.Trials.{IsLoadAt, ShowsAddress, NoOtherWaits, NoLoadWaits}
use Rattle.back.proofs.Seeing.{address_shown, by_code, shown, was_there}
use Rattle.back.proofs.Ranks.{InRing, in_ring}
use Rattle.inorder.proofs.Recent.{among_all, live_is_last}
use Rattle.std.specs.List.{AllByRecursion}
use Rattle.back.proofs.Moments.{once_now}

module _ (P : Program) (C : Sizes) (h : List Entry) (legal : IsLegal P C h) where
  abbrev us : List Tenant
  us = (unit_of P C h).tenants

  ring : InRing C (unit_of P C h)
  ring = in_ring P C h legal

  last_at : (p : ℕ) (t : Tenant) → at us p ≡ Some t → t.standing ≡ Live → AllByRecursion (λ x. x.station ≢ t.station) (younger us p)
  last_at = live_is_last C (unit_of P C h) ring.ring ring.gone

  pub one_live : (p q : ℕ) (t u : Tenant) → at us p ≡ Some t → at us q ≡ Some u → t.standing ≡ Live → u.standing ≡ Live → t.station ≡ u.station → p ≡ q
  one_live p q t u is is' live live' e = elim (cases_lt p q) [
    | inl less ↦ absurd (younger_at (λ x. x.station ≢ t.station) us p (last_at p t is live) q u less is' (sym e))
    | inr le ↦ elim (cases_lt q p) [
      | inl more ↦ absurd (younger_at (λ x. x.station ≢ u.station) us q (last_at q u is' live') p t more is e)
      | inr same ↦ omega (arith, le, same)
    ]
  ]

  is_addr : (s : State) → code s ≡ 3 → s ≡ IsAddr
  is_addr IsFree e = absurd (omega (arith, e))
  is_addr IsOpen e = absurd (omega (arith, e))
  is_addr IsBusy e = absurd (omega (arith, e))
  is_addr IsAddr e = refl
  is_addr IsDone e = absurd (omega (arith, e))
  is_addr IsMiss e = absurd (omega (arith, e))
  is_addr IsStop e = absurd (omega (arith, e))

  not_free : (s : State) → s ≡ IsAddr → s ≢ IsFree
  not_free s e f = let x = sym e ∙ f in cc x

  by_some : (b : Bool) (value a : ℕ) → cond b (Some value) None ≡ Some a → (b ≡ true) × (value ≡ a)
  by_some true value a e = (refl, cc e)
  by_some false value a e = absurd (cc e)

  -- a station that shows an address has a live tenant with it
  pub shown_by : (station tag : ℕ) (state : StationState) (value a : ℕ) →
      Shows (station_word C (recent (unit_of P C h)) station) tag state value →
      address_in state value ≡ Some a → (p : ℕ) × Has (unit_of P C h) p (ShowsAddress station tag a)
  shown_by station tag state value a s e =
      let both = by_some (eqb (state_code state) 3) value a (sym (by_code state value) ∙ e) in
      let three = eqb-true (state_code state) 3 both.0 in
      let is = is_addr (station_word C (recent (unit_of P C h)) station).state (sym s.state_is ∙ three) in
      let n = ((stations_follow P C (taken_of h) back).shows (allowed_steps P C h legal)).names station (not_free (station_word C (recent (unit_of P C h)) station).state is) in
      let f = subst (λ z. HasFate z (station_word C (recent (unit_of P C h)) station).value n.tenant.fate) is n.fate in
      let v : value ≡ f.0 = subst (λ o. HasValue o value) f.1 s.value_is in
      let here = among_all (unit_of P C h) n.p n.tenant n.is in
      (here.p, record { tenant = n.tenant; is = here.is; fact = record { live = n.live; station_is = n.station; tag_is = n.tag ∙ sym s.tag_is; fate = f.2 ∙ ap Addr (sym v ∙ both.1) } })

  -- what a live tenant with an address shows
  pub shows_it : (station tag : ℕ) (state : StationState) (value : ℕ) →
      Shows (station_word C (recent (unit_of P C h)) station) tag state value → (q : ℕ) (u : Tenant) →
      at us q ≡ Some u → u.standing ≡ Live → u.station ≡ station →
      (tag ≡ u.tag) × (address_in state value ≡ shown_address u.fate)
  shows_it station tag state value s q u is live st =
      let word : station_word C (recent (unit_of P C h)) station ≡ live_word u.tag u.fate = ap (station_word C (recent (unit_of P C h))) (sym st) ∙ shown P C h legal q u is live in
      let z = subst (λ w. Shows w tag state value) word s in
      (z.tag_is ∙ tag_of_word u.tag u.fate, address_shown state u.tag value u.fate z.state_is z.value_is)
    where
      tag_of_word : (g : ℕ) (f : Fate) → (live_word g f).tag ≡ g
      tag_of_word g Open = refl
      tag_of_word g (Busy by) = refl
      tag_of_word g (Addr a) = refl
      tag_of_word g (Done v) = refl
      tag_of_word g (Guessed x) = refl
      tag_of_word g (Miss x) = refl
      tag_of_word g (Stopped c) = refl

-- The first look

module _ (P : Program) (C : Sizes) (old mid : List Entry) (a : Adds P C back old mid []) (station tag : ℕ) (state : StationState) (value : ℕ)
    (shows : Shows (station_word C (recent (unit_of P C mid)) station) tag state value) where
  -- a load that was live is of the same station
  same_station : (q : ℕ) (h : Has (unit_of P C old) q (IsLoadAt P station)) (w : Has (unit_of P C mid) q (IsWaitingLoad P)) → w.tenant.station ≡ station
  same_station q h w = (was_there P C old mid a q h.tenant w.tenant h.is w.is).1 ∙ h.fact.station_is

  pub none_shown : address_in state value ≡ None → NoLoadWaits P C old mid station
  none_shown e q h = once_now P C old mid (λ U. ¬ Has U q (IsWaitingLoad P)) a.begins (λ w.
      let z = shows_it P C mid a.legal station tag state value shows q w.tenant w.is w.fact.load.live (same_station q h w) in
      let x = sym e ∙ (z.1 ∙ ap shown_address w.fact.fate) in absurd (cc x))

  pub no_other : (p : ℕ) (address : ℕ) → Has (unit_of P C mid) p (ShowsAddress station tag address) → NoOtherWaits P C old mid station p
  no_other p address it q other h = once_now P C old mid (λ U. ¬ Has U q (IsWaitingLoad P)) a.begins (λ w.
      other (one_live P C mid a.legal q p w.tenant it.tenant w.is it.is w.fact.load.live it.fact.live (same_station q h w ∙ sym it.fact.station_is)))
