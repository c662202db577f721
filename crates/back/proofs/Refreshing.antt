-- What was found of the stations answers the call.
use Rattle.std.proofs.Common.{◌≡◌, false, ◌⊎◌, ℕ, ◌+◌, ◌-◌, ◌%◌, ◌<◌, List, [], ◌∷◌, ◌++◌, Option, Some, None, sym, ap, ◌∙◌, subst, inl, inr, append_assoc, arith}
use Rattle.std.proofs.Math.Nat.{add-mod_right, mod-add-mod, mod-eq_of_lt}
use Rattle.std.specs.List.{AllByRecursion}
use Rattle.std.proofs.lemmas.Bool.{cases_lt}
use Rattle.instructions.specs.Programs.{Program}
use Rattle.inorder.specs.declared.history.Entry.{Entry}
use Rattle.inorder.specs.declared.history.Event.{Event}
use Rattle.inorder.specs.declared.history.Event.TheVariants.{Does}
use Rattle.inorder.specs.declared.history.Act.TheVariants.{Load as LoadIt}
use Rattle.inorder.specs.declared.history.Step.TheVariants.{On}
use Rattle.inorder.specs.Callers.{head_station}
use Rattle.inorder.specs.Committed.{committed}
use Rattle.inorder.specs.History.{IsLegal, back, unit_of}
use Rattle.inorder.specs.OneHistory.{Adds}
use Rattle.inorder.specs.Replies.{Has}
use Rattle.inorder.specs.Tenants.{Tenant}
use Rattle.inorder.specs.Unit.{Sizes, at, is_old}
use Rattle.inorder.proofs.Histories.{adds_on, none_from, legal_before}
use Rattle.instructions.proofs.Histories.{starts_same}
use Rattle.ruu_words.specs.Kinds.{IsNamed}
use Rattle.station.specs.Seats.{TheCore}
use Rattle.station.specs.Writeback.{IsDeliveryOf, IsWalk}
use Rattle.back.specs.Loads.{IsLiveLoad, WasBlocked, WasNotWaiting}
use Rattle.back.specs.Port.{station_behind}
use Rattle.back.specs.Refreshes.{EachLoad, HasFoundBlocked, HasLoaded, HasLoadedNothing, IsTooLate, RefreshAnswers, WasBlockedBy, PortWasIdle}
use Rattle.back.specs.declared.answers.Refresh.{Refresh}
use Rattle.back.specs.declared.answers.Refresh.TheVariants.{Blocked, Idle, Loaded}
use Rattle.back.specs.Scans.{FirstIs, IsFirstBlocked, Scanned}
use Rattle.back.specs.Trials.{DidLoad, HoldsBack, IsLoadAt, RefreshAtAnswers}
use Rattle.back.proofs.Ranks.{rank}
use Rattle.back.proofs.Moments.{once_earlier}
use Rattle.back.proofs.UnitKept.{IsQuiet, committed_kept, head_kept_on}
use Rattle.back.proofs.Standing.{none_behind, place_in, place_of, since_at}
use Rattle.back.proofs.Scanning.{either_later}
use Rattle.inorder.proofs.Recent.{old_since, live_is_recent}

-- Nothing retires

late_quiet : (late : List Event) → AllByRecursion IsTooLate late → AllByRecursion IsQuiet late
late_quiet [] h = tt
late_quiet (e ∷ es) h = (subst IsQuiet (sym h.0.1) tt, late_quiet es h.1)

walk_quiet : (P : Program) (C : Sizes) (seen : List Entry) (q : ℕ) (events : List Event) → IsWalk P C seen q events → AllByRecursion IsQuiet events
walk_quiet P C seen q events w = subst (λ es. AllByRecursion IsQuiet es) (sym w.is) (tt, all w.deliveries w.each)
  where
    all : (es : List Event) → AllByRecursion (IsDeliveryOf P C seen q) es → AllByRecursion IsQuiet es
    all [] h = tt
    all (e ∷ es) h = (subst IsQuiet (sym h.0.is) tt, all es h.1)

both_quiet : (xs ys : List Event) → AllByRecursion IsQuiet xs → AllByRecursion IsQuiet ys → AllByRecursion IsQuiet (xs ++ ys)
both_quiet [] ys x y = y
both_quiet (e ∷ es) ys x y = (x.0, both_quiet es ys x.1 y)

-- A load got its value: each older one that was live before does not wait, or is blocked

module _ (P : Program) (C : Sizes) (old cur new : List Entry) (head : ℕ) (head_is : head ≡ head_station C (unit_of P C old)) (inside : head < C.ring) (k : ℕ) (bound : k < C.ring)
    (blocked : Option (ℕ × ℕ)) (s : Scanned P C back old cur head C.ring k blocked)
    (tag value : ℕ) (x : DidLoad P C back cur new (station_behind head C.ring k) tag value) where
  its_adds : Adds P C back old new (x.carried ++ Does (On x.p LoadIt) ∷ s.late)
  its_adds = subst (λ es. Adds P C back old new es) (append_assoc x.carried (Does (On x.p LoadIt) ∷ []) s.late)
      (adds_on P C back old cur new s.late (x.carried ++ Does (On x.p LoadIt) ∷ []) s.adds x.adds)

  its_quiet : AllByRecursion IsQuiet (x.carried ++ Does (On x.p LoadIt) ∷ s.late)
  its_quiet = both_quiet x.carried (Does (On x.p LoadIt) ∷ s.late) (walk_quiet P C new x.p x.carried x.walk) (tt, late_quiet s.late s.are_late)

  older_ones : EachLoad P C old (λ o. o < x.p → WasNotWaiting P C old new o ⊎ WasBlocked P C old new o)
  older_ones o h less = elim (cases_lt (rank (unit_of P C old).tenants o) k) [
    | inl tried ↦ either_later P C old cur new head C.ring k x.adds.begins o (s.each (rank (unit_of P C old).tenants o) tried o
        (place_of P C old new (x.carried ++ Does (On x.p LoadIt) ∷ s.late) its_adds its_quiet head head_is inside o h))
    | inr behind_it ↦ inl (none_behind P C old new (x.carried ++ Does (On x.p LoadIt) ∷ s.late) its_adds its_quiet head head_is inside k x.p bound
        (once_earlier P C old cur new (λ U. Has U x.p (IsLoadAt P (station_behind head C.ring k))) s.adds.begins x.when) o less h behind_it)
  ]

  pub loaded_on : HasLoaded P C back old new (station_behind head C.ring k) tag value
  loaded_on = record {
    p = x.p;
    tenant = x.tenant;
    carried = x.carried;
    walk = x.walk;
    late = s.late;
    are_late = s.are_late;
    adds = its_adds;
    older = older_ones;
  }

-- None got its value

module _ (P : Program) (C : Sizes) (old new : List Entry) (head : ℕ) (head_is : head ≡ head_station C (unit_of P C old)) (inside : head < C.ring) (blocked : Option (ℕ × ℕ))
    (s : Scanned P C back old new head C.ring C.ring blocked) where
  nothing : HasLoadedNothing P C back old new
  nothing = record { late = s.late; are_late = s.are_late; adds = s.adds }

  abbrev rank_now : ℕ → ℕ
  rank_now q = rank (unit_of P C old).tenants q

  place_now : (q : ℕ) → Has (unit_of P C old) q (IsLiveLoad P) → Has (unit_of P C old) q (IsLoadAt P (station_behind head C.ring (rank_now q)))
  place_now q h = place_of P C old new s.late s.adds (late_quiet s.late s.are_late) head head_is inside q h

  rank_in : (q : ℕ) → Has (unit_of P C old) q (IsLiveLoad P) → rank_now q < C.ring
  rank_in q h = place_in P C old new s.late s.adds (late_quiet s.late s.are_late) head head_is inside q h

  pub is_idle : blocked ≡ None → PortWasIdle P C back old new
  is_idle none = record {
    each = λ q h. (subst (λ b. FirstIs P C old new head C.ring C.ring b) none s.first) (rank_now q) (rank_in q h) q (place_now q h);
    nothing = nothing;
  }

  module _ (load store : ℕ) (some : blocked ≡ Some (load, store)) where
    f : IsFirstBlocked P C old new head C.ring C.ring load store
    f = subst (λ b. FirstIs P C old new head C.ring C.ring b) some s.first

    abbrev point : List Entry
    point = f.when.point

    named_new : (q : ℕ) (t : Tenant) → at (unit_of P C point).tenants q ≡ Some t → is_old (unit_of P C point) q ≡ false → IsNamed (unit_of P C new) q t.station t.tag
    named_new q t is then_new =
        let u = since_at P C point new f.when.within.before_return s.adds.legal q t is in
        let calm = none_from new point old f.when.within.before_return f.when.within.behind_call s.adds.one_table in
        let recent : is_old (unit_of P C new) q ≡ false = old_since P C new point f.when.within.before_return s.adds.legal calm q ∙ then_new in
        record { tenant = u.tenant; is = u.is; new = recent; station_is = u.since.station; tag_is = u.since.tag; fact = tt }

    held : HoldsBack P f.p (station_behind head C.ring f.place) store (unit_of P C point)
    held = f.when.fact

    legal_point : IsLegal P C point
    legal_point = legal_before P C f.when.within.before_return.more point (subst (IsLegal P C) f.when.within.before_return.is s.adds.legal)

    load_new : is_old (unit_of P C point) f.p ≡ false
    load_new = live_is_recent P C point legal_point f.p held.load.tenant held.load.is held.load.fact.load.live

    store_new : is_old (unit_of P C point) held.blocked.q ≡ false
    store_new = let store = held.blocked.blocks.store in live_is_recent P C point legal_point held.blocked.q store.tenant store.is store.fact.live

    blocked_by : WasBlockedBy P C old new f.p load store
    blocked_by = record {
      q = held.blocked.q;
      load_tag = held.load.tenant.tag;
      store_tag = held.blocked.store.tenant.tag;
      load_is = subst (λ z. IsNamed (unit_of P C new) f.p z held.load.tenant.tag) (held.load.fact.station_is ∙ sym f.load_is) (named_new f.p held.load.tenant held.load.is load_new);
      store_is = subst (λ z. IsNamed (unit_of P C new) held.blocked.q z held.blocked.store.tenant.tag) held.blocked.store.fact
          (named_new held.blocked.q held.blocked.store.tenant held.blocked.store.is store_new);
      blocks = record { point = point; within = f.when.within; fact = held.blocked.blocks };
    }

    older_waits_not : EachLoad P C old (λ o. o < f.p → WasNotWaiting P C old new o)
    older_waits_not o h less = elim (cases_lt (rank_now o) f.place) [
      | inl before ↦ f.before (rank_now o) before o (place_now o h)
      | inr behind_it ↦ none_behind P C old new s.late s.adds (late_quiet s.late s.are_late) head head_is inside f.place f.p f.bound
          (record { point = point; within = f.when.within; fact = held.load }) o less h behind_it
    ]

    pub is_blocked : HasFoundBlocked P C back old new load store
    is_blocked = record {
      p = f.p;
      blocked = blocked_by;
      older = older_waits_not;
      younger = λ y h more. s.each (rank_now y) (rank_in y h) y (place_now y h);
      nothing = nothing;
    }

-- What it did to the rest

pub record IsCalm (P : Program) (C : Sizes) (by : ℕ) (old new : List Entry) : Type 0 where
  pub events : List Event
  pub quiet : AllByRecursion IsQuiet events
  pub adds : Adds P C by old new events

pub is_calm : (d : TheCore) (by : ℕ) (old new : List Entry) (r : Refresh) → RefreshAnswers d by old new r → IsCalm d.program d.sizes by old new
is_calm d by old new (Loaded station tag value) x = record {
  events = x.carried ++ Does (On x.p LoadIt) ∷ x.late;
  quiet = both_quiet x.carried (Does (On x.p LoadIt) ∷ x.late) (walk_quiet d.program d.sizes new x.p x.carried x.walk) (tt, late_quiet x.late x.are_late);
  adds = x.adds;
}
is_calm d by old new (Blocked load store) x = record { events = x.nothing.late; quiet = late_quiet x.nothing.late x.nothing.are_late; adds = x.nothing.adds }
is_calm d by old new Idle x = record { events = x.nothing.late; quiet = late_quiet x.nothing.late x.nothing.are_late; adds = x.nothing.adds }

pub is_calm_at : (d : TheCore) (by : ℕ) (old new : List Entry) (station : ℕ) (r : Refresh) → RefreshAtAnswers d by old new station r → IsCalm d.program d.sizes by old new
is_calm_at d by old new station (Loaded load tag value) x = record {
  events = x.1.carried ++ Does (On x.1.p LoadIt) ∷ [];
  quiet = both_quiet x.1.carried (Does (On x.1.p LoadIt) ∷ []) (walk_quiet d.program d.sizes new x.1.p x.1.carried x.1.walk) (tt, tt);
  adds = x.1.adds;
}
is_calm_at d by old new station (Blocked load store) x = record { events = []; quiet = tt; adds = x.1.adds }
is_calm_at d by old new station Idle x = record { events = x.late; quiet = late_quiet x.late x.are_late; adds = x.adds }

-- the place of a station from the head's on
pub place_at : (head station ring at : ℕ) → head < ring → station < ring → at ≡ (station + (ring - head)) % ring → station_behind head ring at ≡ station
place_at head station ring at inside small is =
    let around : (station + (ring - head)) + head ≡ station + ring = omega (arith, inside) in
    ap (λ n. (head + n) % ring) is ∙ (ap (λ n. n % ring) (omega arith) ∙ (mod-add-mod (station + (ring - head)) ring head
    ∙ (ap (λ n. n % ring) around ∙ (add-mod_right station ring ∙ mod-eq_of_lt small))))

-- the head and the state in the middle of a scan
pub head_now : (P : Program) (C : Sizes) (old now : List Entry) (head ring k : ℕ) (blocked : Option (ℕ × ℕ)) → Scanned P C back old now head ring k blocked
    → head ≡ head_station C (unit_of P C old) → head ≡ head_station C (unit_of P C now)
head_now P C old now head ring k blocked s e = e ∙ sym (head_kept_on P C old now now s.late s.adds (late_quiet s.late s.are_late)
    (record { before_return = starts_same now; behind_call = s.adds.begins }))

pub state_now : (P : Program) (C : Sizes) (old now : List Entry) (head ring k : ℕ) (blocked : Option (ℕ × ℕ)) → Scanned P C back old now head ring k blocked
    → committed P (unit_of P C now).tenants ≡ committed P (unit_of P C old).tenants
state_now P C old now head ring k blocked s = committed_kept P C old now s.late s.adds (late_quiet s.late s.are_late)
