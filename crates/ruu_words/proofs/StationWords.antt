-- What a station word says of the tenants.
use Rattle.std.proofs.Common.{◌≡◌, ◌≢◌, ℕ, Bool, true, false, cond, eqb, List, [], ◌∷◌, length, Option, Some, None, refl, sym, ap, ◌∙◌, subst, arith, eqb-true}
use Rattle.instructions.specs.Programs.{Program}
use Rattle.inorder.specs.declared.history.Entry.{Entry}
use Rattle.inorder.specs.History.{IsLegal, taken_of, unit_of}
use Rattle.inorder.specs.Replies.{HasNoOpen}
use Rattle.inorder.specs.StationWords.{last_of, live_word, station_word, station_word_of, word_by}
use Rattle.inorder.specs.Tenants.{Addr, Busy, Done, Fate, Guessed, Live, Miss, Open, Retired, Squashed, Standing, Stopped, Tenant}
use Rattle.inorder.specs.Unit.{Sizes, UpdateUnit, at, is_old, recent, tag_after}
use Rattle.inorder.proofs.Positions.{at_more, at_new}
use Rattle.inorder.proofs.StationsShown.{stations_follow}
use Rattle.inorder.proofs.Recent.{among_all, live_is_recent, names_recent, recent_at}
use Rattle.inorder.proofs.Tags.{tagged}
use Rattle.ruu_words.specs.Content.{IsStation}
use Rattle.ruu_words.specs.Fields.{state_of, tag_of, word_value}
use Rattle.inorder.proofs.Histories.{allowed_steps}
use Rattle.ruu_words.proofs.Packing.{same_word}

-- the last tenant of a station stands somewhere
pub find_last : (U : List Tenant) (s : ℕ) (t : Tenant) → last_of U s ≡ Some t → (p : ℕ) × (at U p ≡ Some t) × (t.station ≡ s)
find_last [] s t h = absurd (cc)
find_last (u ∷ us) s t h = go (eqb u.station s) refl (find_last us s t)
  where
    go : (b : Bool) → eqb u.station s ≡ b → (last_of us s ≡ Some t → (p : ℕ) × (at us p ≡ Some t) × (t.station ≡ s)) → (p : ℕ) × (at (u ∷ us) p ≡ Some t) × (t.station ≡ s)
    go true e more =
        let is : Some u ≡ Some t = ap (λ b. cond b (Some u) (last_of us s)) (sym e) ∙ h in
        let same : u ≡ t = cc is in
        (length us, at_new u us ∙ is, ap (λ x. x.station) (sym same) ∙ eqb-true u.station s e)
    go false e more = let x = more (ap (λ b. cond b (Some u) (last_of us s)) (sym e) ∙ h) in (x.0, at_more u us x.0 t x.1, x.2)

-- the last tenant of a station is live, and the word is its
pub record LastLive (U : UpdateUnit) (s n : ℕ) : Type 0 where
  pub p : ℕ
  pub t : Tenant
  pub is : at U.tenants p ≡ Some t
  pub new : is_old U p ≡ false
  pub station : t.station ≡ s
  pub live : t.standing ≡ Live
  pub last : last_of (recent U) s ≡ Some t
  pub word : IsStation (live_word t.tag t.fate) n

by_standing : (t : Tenant) (k n : ℕ) (st : Standing) → t.standing ≡ st → IsStation (word_by k st t.tag t.fate t.made) n → state_of n ≢ 0 → (t.standing ≡ Live) × IsStation (live_word t.tag t.fate) n
by_standing t k n Live e w ne = (e, w)
by_standing t k n Retired e w ne = absurd (ne w.state)
by_standing t k n Squashed e w ne = absurd (ne w.state)

pub live_last : (C : Sizes) (U : UpdateUnit) (s n : ℕ) → IsStation (station_word C (recent U) s) n → state_of n ≢ 0 → LastLive U s n
live_last C U s n w ne = go (last_of (recent U) s) refl w
  where
    go : (o : Option Tenant) → last_of (recent U) s ≡ o → IsStation (station_word_of (tag_after C (recent U) s) o) n → LastLive U s n
    go None e w = absurd (ne w.state)
    go (Some t) e w =
        let b = by_standing t (tag_after C (recent U) s) n t.standing refl w ne in
        let f = find_last (recent U) s t e in
        let a = among_all U f.0 t f.1 in
        record { p = a.p; t = t; is = a.is; new = a.new; station = f.2; live = b.0; last = e; word = b.1 }

-- the word of a tenant that is still live
pub still_live : (st : Standing) (next tag : ℕ) (f : Fate) (made : Option ℕ) (n : ℕ) → st ≡ Live → IsStation (live_word tag f) n → IsStation (word_by next st tag f made) n
still_live st next tag f made n e w = subst (λ x. IsStation (word_by next x tag f made) n) (sym e) w

-- Fates by their states

pub open_state : (g n : ℕ) (f : Fate) → IsStation (live_word g f) n → state_of n ≡ 1 → f ≡ Open
open_state g n Open w e = refl
open_state g n (Busy by) w e = let s = w.state in absurd (omega arith)
open_state g n (Addr a) w e = let s = w.state in absurd (omega arith)
open_state g n (Done v) w e = let s = w.state in absurd (omega arith)
open_state g n (Miss x) w e = let s = w.state in absurd (omega arith)
open_state g n (Guessed v) w e = let s = w.state in absurd (omega arith)
open_state g n (Stopped c) w e = let s = w.state in absurd (omega arith)

pub addr_state : (g n : ℕ) (f : Fate) → IsStation (live_word g f) n → state_of n ≡ 3 → f ≡ Addr (word_value n)
addr_state g n Open w e = let s = w.state in absurd (omega arith)
addr_state g n (Busy by) w e = let s = w.state in absurd (omega arith)
addr_state g n (Addr a) w e = ap Addr (sym w.value)
addr_state g n (Done v) w e = let s = w.state in absurd (omega arith)
addr_state g n (Miss x) w e = let s = w.state in absurd (omega arith)
addr_state g n (Guessed v) w e = let s = w.state in absurd (omega arith)
addr_state g n (Stopped c) w e = let s = w.state in absurd (omega arith)

pub done_state : (g n : ℕ) (f : Fate) → IsStation (live_word g f) n → state_of n ≡ 4 → f ≡ Done (word_value n)
done_state g n Open w e = let s = w.state in absurd (omega arith)
done_state g n (Busy by) w e = let s = w.state in absurd (omega arith)
done_state g n (Addr a) w e = let s = w.state in absurd (omega arith)
done_state g n (Done v) w e = ap Done (sym w.value)
done_state g n (Miss x) w e = let s = w.state in absurd (omega arith)
done_state g n (Guessed v) w e = let s = w.state in absurd (omega arith)
done_state g n (Stopped c) w e = let s = w.state in absurd (omega arith)

pub miss_state : (g n : ℕ) (f : Fate) → IsStation (live_word g f) n → state_of n ≡ 5 → f ≡ Miss (word_value n)
miss_state g n Open w e = let s = w.state in absurd (omega arith)
miss_state g n (Busy by) w e = let s = w.state in absurd (omega arith)
miss_state g n (Addr a) w e = let s = w.state in absurd (omega arith)
miss_state g n (Done v) w e = let s = w.state in absurd (omega arith)
miss_state g n (Miss x) w e = ap Miss (sym w.value)
miss_state g n (Guessed v) w e = let s = w.state in absurd (omega arith)
miss_state g n (Stopped c) w e = let s = w.state in absurd (omega arith)

pub live_state : (g n : ℕ) (f : Fate) → IsStation (live_word g f) n → (tag_of n ≡ g) × (state_of n ≢ 0)
live_state g n Open w = (w.tag, let s = w.state in omega arith)
live_state g n (Busy by) w = (w.tag, let s = w.state in omega arith)
live_state g n (Addr a) w = (w.tag, let s = w.state in omega arith)
live_state g n (Done v) w = (w.tag, let s = w.state in omega arith)
live_state g n (Miss x) w = (w.tag, let s = w.state in omega arith)
live_state g n (Guessed v) w = (w.tag, let s = w.state in omega arith)
live_state g n (Stopped c) w = (w.tag, let s = w.state in omega arith)

-- a word of a live tenant is one word
pub one_live : (g : ℕ) (f : Fate) (n m : ℕ) → IsStation (live_word g f) n → IsStation (live_word g f) m → n ≡ m
one_live g Open n m w w' = same_word n m (w.tag ∙ sym w'.tag) (w.state ∙ sym w'.state) (w.value ∙ sym w'.value)
one_live g (Busy by) n m w w' = same_word n m (w.tag ∙ sym w'.tag) (w.state ∙ sym w'.state) (w.value ∙ sym w'.value)
one_live g (Addr a) n m w w' = same_word n m (w.tag ∙ sym w'.tag) (w.state ∙ sym w'.state) (w.value ∙ sym w'.value)
one_live g (Done v) n m w w' = same_word n m (w.tag ∙ sym w'.tag) (w.state ∙ sym w'.state) (w.value ∙ sym w'.value)
one_live g (Miss x) n m w w' = same_word n m (w.tag ∙ sym w'.tag) (w.state ∙ sym w'.state) (w.value ∙ sym w'.value)
one_live g (Guessed v) n m w w' = same_word n m (w.tag ∙ sym w'.tag) (w.state ∙ sym w'.state) (w.value ∙ sym w'.value)
one_live g (Stopped c) n m w w' = same_word n m (w.tag ∙ sym w'.tag) (w.state ∙ sym w'.state) (w.value ∙ sym w'.value)

module _ (P : Program) (C : Sizes) (h : List Entry) (legal : IsLegal P C h) where
  abbrev U : UpdateUnit
  U = unit_of P C h

  abbrev us : List Tenant
  us = U.tenants

  -- a live tenant's word
  pub its_word : (p s n : ℕ) (t : Tenant) → at us p ≡ Some t → t.station ≡ s → t.standing ≡ Live → IsStation (station_word C (recent U) s) n → IsStation (live_word t.tag t.fate) n
  its_word p s n t is e live w =
      let x = recent_at U p t is (live_is_recent P C h legal p t is live) in
      let same = ((stations_follow P C (taken_of h) 0).shows (allowed_steps P C h legal)).live x.r t x.is live in
      subst (λ z. IsStation z n) (ap (station_word C (recent U)) (sym e) ∙ same) w

  -- one station and one tag, of recent ones
  pub one_tag : (p q : ℕ) (t u : Tenant) → at us p ≡ Some t → at us q ≡ Some u → is_old U p ≡ false → is_old U q ≡ false → t.station ≡ u.station → t.tag ≡ u.tag → p ≡ q
  one_tag p q t u e f a b same tag = names_recent C U (tagged P C (taken_of h) (allowed_steps P C h legal)) p q t u e f a b same tag

  pub one_at : (p : ℕ) (t u : Tenant) → at us p ≡ Some t → at us p ≡ Some u → t ≡ u
  one_at p t u e f = cc (sym e ∙ f)

  -- a word that is not open is that of no open tenant
  pub not_open : (s n : ℕ) → IsStation (station_word C (recent U) s) n → state_of n ≢ 1 → HasNoOpen U s
  not_open s n w ne p t is e o =
      let l = its_word p s n t is e o.live w in
      let here : IsStation (live_word t.tag Open) n = subst (λ f. IsStation (live_word t.tag f) n) o.fate l in
      ne here.state

  -- a live word with the tag of a recent tenant of the station is that tenant's
  pub the_tenant : (p s g n : ℕ) (t : Tenant) → at us p ≡ Some t → is_old U p ≡ false → t.station ≡ s → t.tag ≡ g → IsStation (station_word C (recent U) s) n → state_of n ≢ 0 → tag_of n ≡ g →
      (t.standing ≡ Live) × IsStation (live_word t.tag t.fate) n
  the_tenant p s g n t is recent e tag w ne tagged =
      let l = live_last C U s n w ne in
      let same : p ≡ l.p = one_tag p l.p t l.t is l.is recent l.new (e ∙ sym l.station) (tag ∙ (sym tagged ∙ (live_state l.t.tag n l.t.fate l.word).0)) in
      let one : l.t ≡ t = one_at p l.t t (ap (at us) same ∙ l.is) is in
      (ap (λ x. x.standing) (sym one) ∙ l.live, subst (λ x. IsStation (live_word x.tag x.fate) n) one l.word)
