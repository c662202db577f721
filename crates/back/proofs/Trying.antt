-- Both looks at a load, and the last one.
use Rattle.std.proofs.Common.{◌≡◌, ◌⊎◌, ℕ, ◌+◌, ◌<◌, ◌≤◌, List, [], length, Some, None, sym, ap, ◌∙◌, subst, inl, inr, ⊎_elim}
use Rattle.std.proofs.Common.{arith}
use mathlib.Core.Logic.{dite}
use native.Mathlib.Decide.{ℕ_discrete}
use Rattle.instructions.specs.Instruction.{kind, width}
use Rattle.instructions.specs.Programs.{Program, instr_of}
use Rattle.inorder.specs.declared.history.Entry.{Entry}
use Rattle.inorder.specs.History.{back, taken_of, unit_of}
use Rattle.inorder.specs.OneHistory.{Adds}
use Rattle.inorder.specs.Replies.{Has, IsStale}
use Rattle.inorder.specs.StationWords.{station_word}
use Rattle.inorder.specs.Tenants.{Addr, Live, Squashed, Tenant}
use Rattle.inorder.specs.Unit.{Sizes, at, older, recent, younger}
use Rattle.inorder.proofs.Basics.{split_at}
use Rattle.inorder.proofs.Grows.{sound_mid}
use Rattle.inorder.proofs.Histories.{allowed_steps, unit_sound}
use Rattle.inorder.proofs.InOrderStep.{load_in}
use Rattle.inorder.proofs.Positions.{at_below, at_there}
use Rattle.inorder.proofs.Sound.{FateIs, IsSound}
use Rattle.inorder.proofs.Tags.{tagged}
use Rattle.ruu_words.specs.declared.station.StationState.{StationState}
use Rattle.ruu_words.specs.Kinds.{IsNamed}
use Rattle.station.specs.Looking.{Shows}
use Rattle.back.specs.Loads.{IsWaitingLoad}
use Rattle.back.specs.Port.{IsAskedInOrder, IsLoadOf, address_in, shown_address}
use Rattle.back.specs.Trials.{ShowsAddress, NoOtherWaits, NoLoadWaits, SomeWaits, load_of_index}
use Rattle.back.specs.declared.port.Load.{Load}
use Rattle.back.proofs.PortStays.{asked_stays, length_grows, shown_stays}
use Rattle.back.proofs.Seeing.{index_inside, was_there}
use Rattle.inorder.proofs.Recent.{names_recent, old_since, live_is_recent}
use Rattle.std.proofs.lemmas.Option.{same_Some}
use Rattle.back.proofs.Moments.{once_later, once_now}
use Rattle.instructions.proofs.Histories.{starts_on}
use Rattle.back.proofs.AtStation.{no_other, shown_by, shows_it}
use Rattle.back.proofs.ReadLoads.{load_says, load_there}

module _ (P : Program) (C : Sizes) (old mid new : List Entry) (a : Adds P C back old mid []) (b : Adds P C back mid new []) (station tag : ℕ) (state : StationState) (value : ℕ)
    (shows : Shows (station_word C (recent (unit_of P C mid)) station) tag state value) (address : ℕ) (shown_is : address_in state value ≡ Some address) (index : ℕ)
    (its : (q : ℕ) (t : Tenant) → at (unit_of P C new).tenants q ≡ Some t → t.station ≡ station → t.standing ≡ Live → index ≡ t.index) where
  first : (p : ℕ) × Has (unit_of P C mid) p (ShowsAddress station tag address)
  first = shown_by P C mid a.legal station tag state value address shows shown_is

  abbrev p : ℕ
  p = first.0

  then_shown : Has (unit_of P C new) p (ShowsAddress station tag address) ⊎ IsStale (unit_of P C new) p
  then_shown = shown_stays P C mid new b p station tag address first.1

  others_new : NoOtherWaits P C old new station p
  others_new q other h = once_later P C old mid new (λ U. ¬ Has U q (IsWaitingLoad P)) b.begins (no_other P C old mid a station tag state value shows p address first.1 q other h)

  named_new : IsNamed (unit_of P C new) p station tag
  named_new =
      let o = at_there (unit_of P C new).tenants p (long_enough) in
      let w = was_there P C mid new b p first.1.tenant o.0 first.1.is o.1 in
      record {
        tenant = o.0;
        is = o.1;
        new = old_since P C new mid b.begins b.legal b.one_table p ∙ live_is_recent P C mid a.legal p first.1.tenant first.1.is first.1.fact.live;
        station_is = w.1 ∙
            first.1.fact.station_is;
        tag_is = w.2 ∙ first.1.fact.tag_is;
        fact = tt;
      }
    where
      long_enough : p < length (unit_of P C new).tenants
      long_enough =
          let below = at_below (unit_of P C mid).tenants p first.1.tenant first.1.is in
          let grows = length_grows P C mid new b in omega (arith, below, grows)

  pub some_waits : (l : Load) → load_of_index P index tag address ≡ Some l → SomeWaits P C old new station l
  some_waits l e =
      let i = load_says P index tag address l e in
      record {
        p = p;
        named = subst (λ g. IsNamed (unit_of P C new) p station g) (sym i.tag_is) named_new;
        asked = ⊎_elim
            (λ (h : Has (unit_of P C new) p (ShowsAddress station tag address)).
            let same = its p h.tenant h.is h.fact.station_is h.fact.live in
            inl (record {
              tenant = h.tenant;
              is = h.is;
              fact = record {
                load = record { live = h.fact.live; kind = ap (λ k. kind (instr_of P k).op) (sym same) ∙ i.kind_is };
                station_is = h.fact.station_is;
                tag_is = h.fact.tag_is ∙ sym i.tag_is;
                fate = h.fact.fate ∙ ap Addr (sym i.address_is);
                op_is = ap (λ k. (instr_of P k).op) (sym same) ∙ sym i.op_is;
              };
            }))
            (λ g. inr g)
            then_shown;
        others = others_new;
      }

  -- what was read is no load: none waits
  none_new : load_of_index P index tag address ≡ None → ¬ Has (unit_of P C new) p (IsWaitingLoad P)
  none_new e w =
      let us = (unit_of P C new).tenants in
      let t = w.tenant in
      let same_st = (was_there P C mid new b p first.1.tenant t first.1.is w.is).1 ∙ first.1.fact.station_is in
      let same : index ≡ t.index = its p t w.is same_st w.fact.load.live in
      let inside = index_inside P C new b.legal p t w.is in
      let own = (sound_mid P t (older us p) (younger us p) (subst (IsSound P) (split_at us p t w.is) (unit_sound P C new b.legal))).own in
      let fits = load_in P t w.fact.address w.fact.load.kind (subst (FateIs P t) w.fact.fate own.fate).1 in
      let addr : w.fact.address ≡ address = ⊎_elim
      (λ (h : Has (unit_of P C new) p (ShowsAddress station tag address)).
      let e2 = sym w.fact.fate ∙ (ap (λ (x : Tenant). x.fate) (same_Some t h.tenant (sym w.is ∙ h.is)) ∙ h.fact.fate) in one_addr w.fact.address address e2)
      (λ (g : IsStale (unit_of P C new) p).
      let x = sym w.fact.load.live ∙ (ap (λ (x : Tenant). x.standing) (same_Some t g.tenant (sym w.is ∙ g.is)) ∙ g.fact) in absurd (apart x))
      then_shown in
      load_there P index tag address (subst (λ k. k < length P.code) (sym same) inside) (ap (λ k. kind (instr_of P k).op) same ∙ w.fact.load.kind)
      (subst (λ (z : ℕ × ℕ). z.0 + width (instr_of P z.1).op ≤ length P.bytes) (λ i. (addr i, sym same i)) fits) e
    where
      apart : Live ≡ Squashed → ⊥
      apart x = cc x

      one_addr : (x y : ℕ) → Addr x ≡ Addr y → x ≡ y
      one_addr x y e = cc e

  pub none_read : load_of_index P index tag address ≡ None → NoLoadWaits P C old new station
  none_read e q h = dite (ℕ_discrete q p)
      (λ same. once_now P C old new (λ U. ¬ Has U q (IsWaitingLoad P)) (starts_on old mid new a.begins b.begins) (λ w. none_new e (subst (λ x. Has (unit_of P C new) x (IsWaitingLoad P)) same w)))
      (λ other. others_new q other h)

module _ (P : Program) (C : Sizes) (old new : List Entry) (a : Adds P C back old new []) (station tag : ℕ) (state : StationState) (value : ℕ)
    (shows : Shows (station_word C (recent (unit_of P C new)) station) tag state value) (l : Load) (p : ℕ) where
  pub still_there : IsNamed (unit_of P C old) p station l.tag →
      IsAskedInOrder P (unit_of P C old) p station l → tag ≡ l.tag → (x : ℕ) →
      address_in state value ≡ Some x → Has (unit_of P C new) p (IsLoadOf P station l)
  still_there n asked same x e = ⊎_elim
      (λ h. h)
      (λ (g : IsStale (unit_of P C new) p).
      let w = was_there P C old new a p n.tenant g.tenant n.is g.is in
      let s = shown_by P C new a.legal station tag state value x shows e in
      let p_new = old_since P C new old a.begins a.legal a.one_table p ∙ n.new in
      let s_new = live_is_recent P C new a.legal s.0 s.1.tenant s.1.is s.1.fact.live in
      let tags = tagged P C (taken_of new) (allowed_steps P C new a.legal) in
      let one : p ≡ s.0 = names_recent C (unit_of P C new) tags p s.0 g.tenant s.1.tenant g.is s.1.is p_new s_new (w.1 ∙ (n.station_is ∙ sym s.1.fact.station_is))
      (w.2 ∙ (n.tag_is ∙ (sym same ∙ sym s.1.fact.tag_is))) in
      let t = same_Some g.tenant s.1.tenant (sym g.is ∙ (ap (at (unit_of P C new).tenants) one ∙ s.1.is)) in
      absurd (apart (sym s.1.fact.live ∙ (ap (λ (z : Tenant). z.standing) (sym t) ∙ g.fact))))
      (asked_stays P C old new a p station l asked)
    where
      apart : Live ≡ Squashed → ⊥
      apart x = cc x

  -- a load that waits shows its tag and address
  pub not_there : IsAskedInOrder P (unit_of P C old) p station l → (tag ≡ l.tag → address_in state value ≡ Some l.address → ⊥) → ¬ Has (unit_of P C new) p (IsWaitingLoad P)
  not_there asked gone w = ⊎_elim
      (λ (h : Has (unit_of P C new) p (IsLoadOf P station l)).
      let z = shows_it P C new a.legal station tag state value shows p h.tenant h.is h.fact.load.live h.fact.station_is in
      gone (z.0 ∙ h.fact.tag_is) (z.1 ∙ ap shown_address h.fact.fate))
      (λ (g : IsStale (unit_of P C new) p). apart (sym w.fact.load.live ∙ (ap (λ (z : Tenant). z.standing) (same_Some w.tenant g.tenant (sym w.is ∙ g.is)) ∙ g.fact)))
      (asked_stays P C old new a p station l asked)
    where
      apart : Live ≡ Squashed → ⊥
      apart x = cc x
