-- What looks at a station show of its live tenant.
use Rattle.std.proofs.Common.{◌≡◌, ℕ, ◌<◌, cond, eqb, List, [], length, Some, None, refl, sym, ap, ◌∙◌, subst, arith}
use Rattle.std.proofs.lemmas.Option.{same_Some}
use Rattle.instructions.specs.Programs.{Program, instr_of}
use Rattle.inorder.specs.declared.history.Entry.{Entry}
use Rattle.inorder.specs.History.{IsLegal, back, taken_of, unit_of}
use Rattle.inorder.specs.OneHistory.{Adds}
use Rattle.inorder.specs.StationWords.{live_word, station_word}
use Rattle.inorder.specs.Tenants.{Addr, Busy, Done, Fate, Guessed, Live, Miss, Open, Stopped, Tenant}
use Rattle.inorder.specs.Unit.{Sizes, at, older, recent, younger}
use Rattle.inorder.proofs.Basics.{split_at}
use Rattle.inorder.proofs.Grows.{sound_mid}
use Rattle.inorder.proofs.Histories.{adds_on, allowed_steps, unit_sound}
use Rattle.inorder.proofs.Positions.{at_there}
use Rattle.inorder.proofs.Sound.{IsSound}
use Rattle.inorder.proofs.StationsShown.{stations_follow}
use Rattle.lsq.specs.declared.entry.Entry.{Entry as QueueEntry}
use Rattle.ruu_words.specs.declared.station.StationState.{StationState}
use Rattle.ruu_words.specs.declared.station.StationState.TheVariants.{Free, Open as ShowsOpen, Busy as ShowsBusy, Addr as ShowsAddr, Done as ShowsDone, Miss as ShowsMiss, Stop as ShowsStop}
use Rattle.ruu_words.specs.Content.{HasValue, code}
use Rattle.ruu_words.specs.States.{state_code}
use Rattle.ruu_words.proofs.Stays.{fact_stays}
use Rattle.station.specs.Looking.{Shows}
use Rattle.station.specs.Seats.{Caller, IsSameSeat}
use Rattle.back.specs.Port.{AtStation, IsEntryOf, address_in, shown_address, seen_as}
use Rattle.back.proofs.OwnEntries.{added_legal}
use Rattle.back.proofs.PortStays.{length_grows}
use Rattle.inorder.proofs.Recent.{live_is_recent, recent_at}

-- The address that a station shows is that of its live tenant

pub by_code : (s : StationState) (v : ℕ) → address_in s v ≡ cond (eqb (state_code s) 3) (Some v) None
by_code Free v = refl
by_code ShowsOpen v = refl
by_code ShowsBusy v = refl
by_code ShowsAddr v = refl
by_code ShowsDone v = refl
by_code ShowsMiss v = refl
by_code ShowsStop v = refl

by_fate : (tag v : ℕ) (f : Fate) → HasValue (live_word tag f).value v → cond (eqb (code (live_word tag f).state) 3) (Some v) None ≡ shown_address f
by_fate tag v Open h = refl
by_fate tag v (Busy by) h = refl
by_fate tag v (Addr a) h = ap Some h
by_fate tag v (Done x) h = refl
by_fate tag v (Guessed x) h = refl
by_fate tag v (Miss x) h = refl
by_fate tag v (Stopped c) h = refl

pub address_shown : (s : StationState) (tag v : ℕ) (f : Fate) → state_code s ≡ code (live_word tag f).state → HasValue (live_word tag f).value v → address_in s v ≡ shown_address f
address_shown s tag v f e h = by_code s v ∙ (ap (λ n. cond (eqb n 3) (Some v) None) e ∙ by_fate tag v f h)

-- What was so of a tenant before

pub record Since (t u : Tenant) : Type 0 where
  pub index : u.index ≡ t.index
  pub live : u.standing ≡ Live → t.standing ≡ Live

module _ (P : Program) (C : Sizes) (mid new : List Entry) (b : Adds P C back mid new []) where
  -- a tenant that is there now was there, and live if it is now
  pub was_there : (q : ℕ) (t u : Tenant) → at (unit_of P C mid).tenants q ≡ Some t → at (unit_of P C new).tenants q ≡ Some u → Since t u × (u.station ≡ t.station) × (u.tag ≡ t.tag)
  was_there q t u before now =
      let legal = added_legal P C back mid new [] b in
      let i = fact_stays P C q (λ x. Since t x × (x.station ≡ t.station) × (x.tag ≡ t.tag)) (λ by s x y m f.
      (record { index = m.index ∙ f.0.index; live = λ l. f.0.live (m.live l) }, m.station ∙ f.1, m.tag ∙ f.2)) b.begins.more mid legal
      (record { tenant = t; is = before; fact = (record { index = refl; live = λ l. l }, refl, refl) }) in
      let there : at (unit_of P C new).tenants q ≡ Some i.tenant = ap (λ h. at (unit_of P C h).tenants q) b.begins.is ∙ i.is in
      let same = same_Some i.tenant u (sym there ∙ now) in
      (subst (Since t) same i.fact.0, subst (λ (x : Tenant). x.station ≡ t.station) same i.fact.1, subst (λ (x : Tenant). x.tag ≡ t.tag) same i.fact.2)

-- A live tenant is what its station shows
pub shown : (P : Program) (C : Sizes) (h : List Entry) → IsLegal P C h → (q : ℕ) (u : Tenant) →
    at (unit_of P C h).tenants q ≡ Some u → u.standing ≡ Live →
    station_word C (recent (unit_of P C h)) u.station ≡ live_word u.tag u.fate
shown P C h legal q u is live =
    let x = recent_at (unit_of P C h) q u is (live_is_recent P C h legal q u is live) in
    ((stations_follow P C (taken_of h) back).shows (allowed_steps P C h legal)).live x.r u x.is live

pub index_inside : (P : Program) (C : Sizes) (h : List Entry) → IsLegal P C h → (q : ℕ) (u : Tenant) → at (unit_of P C h).tenants q ≡ Some u → u.index < length P.code
index_inside P C h legal q u is =
    let us = (unit_of P C h).tenants in
    (sound_mid P u (older us q) (younger us q) (subst (IsSound P) (split_at us q u is) (unit_sound P C h legal))).own.inside

module _ (P : Program) (C : Sizes) (old mid new : List Entry) (a : Adds P C back old mid []) (b : Adds P C back mid new []) (station index : ℕ)
    (its : (q : ℕ) (t : Tenant) → at (unit_of P C mid).tenants q ≡ Some t → t.station ≡ station → t.standing ≡ Live → index ≡ t.index)
    (tag : ℕ) (state : StationState) (value : ℕ) (shows : Shows (station_word C (recent (unit_of P C new)) station) tag state value) where
  pub sees_entry : (e : QueueEntry) → (index < length P.code → e ≡ seen_as (instr_of P index) state value) → AtStation (unit_of P C new) (length (unit_of P C old).tenants) station (IsEntryOf P e)
  sees_entry e is q u l here live st =
      let few = length_grows P C old mid a in
      let o = at_there (unit_of P C mid).tenants q (omega (arith, l, few)) in
      let w = was_there P C mid new b q o.0 u o.1 here in
      let same : index ≡ u.index = its q o.0 o.1 (sym w.1 ∙ st) (w.0.live live) ∙ sym w.0.index in
      let entry = is (subst (λ i. i < length P.code) (sym same) (index_inside P C new b.legal q u here)) ∙ ap (λ i. seen_as (instr_of P i) state value) same in
      let word : station_word C (recent (unit_of P C new)) station ≡ live_word u.tag u.fate = ap (station_word C (recent (unit_of P C new))) (sym st) ∙ shown P C new b.legal q u here live in
      let s = subst (λ z. Shows z tag state value) word shows in
      record {
        store = ap (λ (x : QueueEntry). x.store) entry;
        width = ap (λ (x : QueueEntry). x.width) entry;
        address = ap (λ (x : QueueEntry). x.address) entry ∙ address_shown state u.tag value u.fate s.state_is s.value_is;
        content = ap (λ (x : QueueEntry). x.content) entry;
      }

-- two looks in a row
pub two_looks : (P : Program) (C : Sizes) (by by' : ℕ) (old mid new : List Entry) → by' ≡ by → Adds P C by old mid [] → Adds P C by' mid new [] → Adds P C by old new []
two_looks P C by by' old mid new e a b = adds_on P C by old mid new [] [] a (subst (λ x. Adds P C x mid new []) e b)

pub same_on : (u v x : Caller) → IsSameSeat u v → IsSameSeat v x → IsSameSeat u x
same_on u v x a b = record { core = b.core ∙ a.core; by = b.by ∙ a.by }
