-- Where the loads of a call stand, which were live when it began: after the head, by their age.
use Rattle.std.proofs.Common.{◌≡◌, ℕ, ◌+◌, ◌%◌, ◌<◌, ◌≤◌, List, Some, refl, sym, ap, ◌∙◌, subst, arith}
use Rattle.std.specs.List.{AllByRecursion}
use Rattle.std.proofs.lemmas.Option.{same_Some}
use Rattle.instructions.specs.Programs.{Program}
use Rattle.inorder.specs.declared.history.Entry.{Entry}
use Rattle.inorder.specs.declared.history.Event.{Event}
use Rattle.inorder.specs.Callers.{head_station}
use Rattle.inorder.specs.History.{IsLegal, back, unit_of}
use Rattle.instructions.specs.Histories.{StartsWith}
use Rattle.inorder.specs.OneHistory.{Adds}
use Rattle.inorder.specs.Replies.{Has}
use Rattle.inorder.specs.Tenants.{Live, Tenant}
use Rattle.inorder.specs.Unit.{Sizes, UpdateUnit, at}
use Rattle.inorder.proofs.Histories.{legal_before, unit_sound}
use Rattle.ruu_words.proofs.Stays.{fact_stays}
use Rattle.station.specs.Moments.{WasOnce}
use Rattle.back.specs.Loads.{IsLiveLoad, WasNotWaiting}
use Rattle.back.specs.Port.{station_behind}
use Rattle.back.specs.Trials.{IsLoadAt}
use Rattle.back.proofs.Ranks.{in_ring, InRing, rank, rank_grows, rank_small, same_rank, stands_at}
use Rattle.back.proofs.UnitKept.{IsQuiet, head_kept_on}

-- What was so of a tenant before

pub record Since (t u : Tenant) : Type 0 where
  pub index : u.index ≡ t.index
  pub station : u.station ≡ t.station
  pub tag : u.tag ≡ t.tag
  pub live : u.standing ≡ Live → t.standing ≡ Live

pub record SinceAt (V : UpdateUnit) (q : ℕ) (t : Tenant) : Type 0 where
  pub tenant : Tenant
  pub is : at V.tenants q ≡ Some tenant
  pub since : Since t tenant

pub since_at : (P : Program) (C : Sizes) (before now : List Entry) → StartsWith now before → IsLegal P C now → (q : ℕ) (t : Tenant) → at (unit_of P C before).tenants q ≡ Some t
    → SinceAt (unit_of P C now) q t
since_at P C before now s legal q t is =
    let i = fact_stays P C q (Since t)
    (λ by z x y m f. record { index = m.index ∙ f.index; station = m.station ∙ f.station; tag = m.tag ∙ f.tag; live = λ l. f.live (m.live l) }) s.more before (subst (IsLegal P C) s.is legal)
    (record { tenant = t; is = is; fact = record { index = refl; station = refl; tag = refl; live = λ l. l } }) in
    record { tenant = i.tenant; is = ap (λ h. at (unit_of P C h).tenants q) s.is ∙ i.is; since = i.fact }

-- At one moment

module _ (P : Program) (C : Sizes) (h : List Entry) (legal : IsLegal P C h) (head : ℕ) (head_is : head ≡ head_station C (unit_of P C h)) where
  abbrev us : List Tenant
  us = (unit_of P C h).tenants

  ring : InRing C (unit_of P C h)
  ring = in_ring P C h legal

  pub stands_behind : (q : ℕ) (t : Tenant) → at us q ≡ Some t → t.standing ≡ Live → t.station ≡ station_behind head C.ring (rank us q)
  stands_behind q t is live = stands_at P C (unit_of P C h) (unit_sound P C h legal) ring q t is live ∙ ap (λ x. (x + rank us q) % C.ring) (sym head_is)

  pub stands_inside : (q : ℕ) (t : Tenant) → at us q ≡ Some t → t.standing ≡ Live → rank us q < C.ring
  stands_inside q t is live = rank_small C (unit_of P C h) ring q t is live

-- During a call that retires nothing

module _ (P : Program) (C : Sizes) (old new : List Entry) (events : List Event) (adds : Adds P C back old new events) (quiet : AllByRecursion IsQuiet events) (head : ℕ)
    (head_is : head ≡ head_station C (unit_of P C old)) (inside : head < C.ring) where
  old_legal : IsLegal P C old
  old_legal = legal_before P C adds.begins.more old (subst (IsLegal P C) adds.begins.is adds.legal)

  abbrev pub rank_of : ℕ → ℕ
  rank_of q = rank (unit_of P C old).tenants q

  station_is : (q : ℕ) → (h : Has (unit_of P C old) q (IsLiveLoad P)) → h.tenant.station ≡ station_behind head C.ring (rank_of q)
  station_is q h = stands_behind P C old old_legal head head_is q h.tenant h.is h.fact.live

  -- each live load stands somewhere
  pub place_of : (q : ℕ) → (h : Has (unit_of P C old) q (IsLiveLoad P)) → Has (unit_of P C old) q (IsLoadAt P (station_behind head C.ring (rank_of q)))
  place_of q h = record { tenant = h.tenant; is = h.is; fact = record { load = h.fact; station_is = station_is q h } }

  pub place_in : (q : ℕ) → Has (unit_of P C old) q (IsLiveLoad P) → rank_of q < C.ring
  place_in q h = stands_inside P C old old_legal head head_is q h.tenant h.is h.fact.live

  -- A load stood there at a moment of the call: then no older one that stands at its place or after it waits
  pub none_behind : (place p : ℕ) → place < C.ring → WasOnce P C old new (λ U. Has U p (IsLoadAt P (station_behind head C.ring place))) → (o : ℕ) → o < p → Has (unit_of P C old) o (IsLiveLoad P)
      → place ≤ rank_of o → WasNotWaiting P C old new o
  none_behind place p bound once o less h behind_it = record {
    point = point;
    within = once.within;
    fact = λ w.
        let u = since_at P C old point once.within.behind_call point_legal o h.tenant h.is in
        let same = same_Some u.tenant w.tenant (sym u.is ∙ w.is) in
        let now = stands_behind P C point point_legal head head_then o w.tenant w.is w.fact.load.live in
        let then = ap (λ (z : Tenant). z.station) (sym same) ∙ (u.since.station ∙ station_is o h) in
        let eq = same_rank head (rank us_then o) (rank_of o) C.ring inside (stands_inside P C point point_legal head head_then o w.tenant w.is w.fact.load.live) (place_in o h) (sym now ∙ then) in
        let grows = rank_grows us_then o p w.tenant it.tenant w.is w.fact.load.live it.is less in
        absurd (omega (arith, grows, place_is, eq, behind_it));
  }
    where
      point : List Entry
      point = once.point

      us_then : List Tenant
      us_then = (unit_of P C point).tenants

      it : Has (unit_of P C point) p (IsLoadAt P (station_behind head C.ring place))
      it = once.fact

      point_legal : IsLegal P C point
      point_legal = legal_before P C once.within.before_return.more point (subst (IsLegal P C) once.within.before_return.is adds.legal)

      head_then : head ≡ head_station C (unit_of P C point)
      head_then = head_is ∙ sym (head_kept_on P C old new point events adds quiet once.within)

      place_is : rank us_then p ≡ place
      place_is = same_rank head (rank us_then p) place C.ring inside (stands_inside P C point point_legal head head_then p it.tenant it.is it.fact.load.live) bound
          (sym (stands_behind P C point point_legal head head_then p it.tenant it.is it.fact.load.live) ∙ it.fact.station_is)
