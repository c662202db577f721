-- What comes of a load that was answered.
use Rattle.std.proofs.Common.{◌≡◌, ◌⊎◌, ℕ, List, [], ◌∷◌, ◌++◌, map, refl, sym, ap, ◌∙◌, subst, inl, inr, ⊎_elim, append_assoc}
use Rattle.std.proofs.lemmas.List.{append-nil}
use Rattle.std.proofs.lemmas.Option.{same_Some}
use mathlib.Core.Logic.{dite}
use native.Mathlib.Decide.{ℕ_discrete}
use Rattle.instructions.specs.Programs.{Program}
use Rattle.inorder.specs.declared.history.Act.{Act}
use Rattle.inorder.specs.declared.history.Act.TheVariants.{Claim, Deliver, Finish, Link, Load as LoadIt, Mend, Retire, Speculate, Squash}
use Rattle.inorder.specs.declared.history.Entry.{Entry}
use Rattle.inorder.specs.declared.history.Event.{Event}
use Rattle.inorder.specs.declared.history.Event.TheVariants.{Does, Refuses}
use Rattle.inorder.specs.declared.history.Refusal.TheVariants.{Stale}
use Rattle.inorder.specs.declared.history.Source.TheVariants.{First, Second}
use Rattle.inorder.specs.declared.history.Step.{Step}
use Rattle.inorder.specs.declared.history.Step.TheVariants.{On}
use Rattle.inorder.specs.Callers.{CanLoad}
use Rattle.inorder.specs.History.{IsLegal, back, entry, unit_of, renewals}
use Rattle.instructions.specs.Histories.{StartsWith}
use Rattle.inorder.specs.OneHistory.{Adds}
use Rattle.inorder.specs.Legal.{Allowed, May, applied, changed}
use Rattle.inorder.specs.Memory.{load_value}
use Rattle.inorder.specs.Replies.{Has, IsStale}
use Rattle.inorder.specs.Speculation.{CanGuess}
use Rattle.inorder.specs.Tenants.{Done, Live, Squashed, Tenant}
use Rattle.inorder.specs.Unit.{Sizes, UpdateUnit, older, younger}
use Rattle.inorder.proofs.Ends.{Acted, IsNotBacks, exact}
use Rattle.inorder.proofs.Histories.{adds_on, legal_before, unit_lasts, none_to, none_from}
use Rattle.inorder.proofs.Loading.{gone_stays, load_stays}
use Rattle.inorder.proofs.Moves.{IsActed, IsLeft, at_changed}
use Rattle.inorder.proofs.Sound.{IsSound}
use Rattle.ruu_words.specs.Kinds.{IsNamed, IsTenant}
use Rattle.ruu_words.proofs.Stays.{back_stays, named_on, named_stays, one_named, with_fact}
use Rattle.station.specs.Moments.{WasOnce}
use Rattle.station.specs.Writeback.{IsWalk, IsWritten, MaySettle, WasStale}
use Rattle.back.specs.Loads.{IsWaitingLoad}
use Rattle.back.specs.Port.{IsAskedInOrder, IsBlockedAt, IsLoadOf}
use Rattle.back.specs.Trials.{DidLoad, HasHeldBack, HasPassed, HoldsBack, IsLoadAt, NoOtherWaits, NoLoadWaits, SomeWaits}
use Rattle.back.specs.declared.port.Load.{Load}
use Rattle.back.proofs.OwnEntries.{EndsWith, added_own, split_last}
use Rattle.back.proofs.PortStays.{asked_stays}
use Rattle.back.proofs.Moments.{once_earlier, once_later, once_now}
use Rattle.instructions.proofs.Histories.{starts_on}
use Rattle.inorder.proofs.Recent.{live_is_recent}
use Rattle.inorder.specs.declared.history.Speculation.TheVariants.{Confirm, Flush, Guess}

apart : Live ≡ Squashed → ⊥
apart x = cc x

-- What is done stays done

done_on : (P : Program) (by : ℕ) (act : Act) (ys : List Tenant) (t : Tenant) (ts : List Tenant) (v : ℕ) → May P by act ys t ts → t.fate ≡ Done v → (changed P by act t ts).fate ≡ Done v
done_on P by (Link First) ys t ts v m e = e
done_on P by (Link Second) ys t ts v m e = e
done_on P by (Deliver First) ys t ts v m e = e
done_on P by (Deliver Second) ys t ts v m e = e
done_on P by Claim ys t ts v m e = let x = sym e ∙ m.fate in absurd (cc x)
done_on P by Finish ys t ts v m e = let x = sym e ∙ m.fate in absurd (cc x)
done_on P by LoadIt ys t ts v m e = let x = sym e ∙ m.fate in absurd (cc x)
done_on P by (Retire n) ys t ts v m e = e
done_on P by Squash ys t ts v m e = e
done_on P by (Speculate (Guess w)) ys t ts v m e = absurd (subst CanGuess e m.fate)
done_on P by (Speculate Confirm) ys t ts v m e = let x = sym e ∙ m.fate in absurd (cc x)
done_on P by (Speculate Flush) ys t ts v m e = e
done_on P by Mend ys t ts v m e = let x = sym e ∙ m.fate in absurd (cc x)

done_stays : (P : Program) (C : Sizes) (p v : ℕ) (U : UpdateUnit) (by : ℕ) (s : Step) → Allowed P C U by s → Has U p (λ t. t.fate ≡ Done v) → Has (applied P C U by s) p (λ t. t.fate ≡ Done v)
done_stays P C p v U by s a h = ⊎_elim
    (λ e. record { tenant = h.tenant; is = e; fact = h.fact })
    (λ (z : Acted P U by s (applied P C U by s).tenants p h.tenant).
    record { tenant = changed P by z.act h.tenant (older U.tenants p); is = z.now; fact = done_on P by z.act (younger U.tenants p) h.tenant (older U.tenants p) v z.may h.fact })
    (exact P C U by s a p h.tenant h.is)

module _ (P : Program) (C : Sizes) (old new : List Entry) where
  -- a tenant keeps its name
  named_behind : (before : List Entry) → StartsWith new before → IsLegal P C new →
      renewals new ≡ renewals before → (p station tag : ℕ) → IsNamed (unit_of P C before) p station tag →
      IsNamed (unit_of P C new) p station tag
  named_behind before starts legal same p station tag n =
      subst (λ h. IsNamed (unit_of P C h) p station tag) (sym starts.is)
      (named_stays P C p station tag starts.more before (subst (IsLegal P C) starts.is legal) (sym (ap renewals starts.is) ∙ same) n)

  -- A load got its value: what was seen before that, and what has come since
  module _ (station tag : ℕ) (w : IsWritten P C back old new station tag LoadIt (λ q. IsWalk P C new q)) where
    abbrev event : Entry
    event = entry back (Does (On w.p LoadIt))

    ends : EndsWith back w.adds.begins.more event
    ends = split_last back w.adds.begins.more (map (entry back) w.behind) event
        (added_own P C back old new (w.behind ++ Does (On w.p LoadIt) ∷ []) w.adds ∙ map_end w.behind (Does (On w.p LoadIt)))
      where
        map_end : (xs : List Event) (y : Event) → map (entry back) (xs ++ y ∷ []) ≡ map (entry back) xs ++ entry back y ∷ []
        map_end [] y = refl
        map_end (z ∷ xs) y = ap (λ q. entry back z ∷ q) (map_end xs y)

    abbrev before : List Entry
    before = ends.earlier ++ old

    new_is : new ≡ ends.later ++ event ∷ before
    new_is = w.adds.begins.is ∙ (ap (λ z. z ++ old) ends.is ∙ append_assoc ends.later (event ∷ ends.earlier) old)

    legal_then : IsLegal P C (event ∷ before)
    legal_then = legal_before P C ends.later (event ∷ before) (subst (IsLegal P C) new_is w.adds.legal)

    -- at the moment before, it stood at its station
    pub stood_there : WasOnce P C old new (λ U. Has U w.p (IsLoadAt P station))
    stood_there = record {
      point = before;
      within = record { before_return = starts; behind_call = record { more = ends.earlier; is = refl } };
      fact = record {
        tenant = a.tenant;
        is = a.is;
        fact = record {
          load = record { live = a.may.live; kind = a.may.kind };
          station_is = sym n.station_is ∙ (ap (λ (z : Tenant). z.station) (same_Some n.tenant w.named.tenant (sym n.is ∙ w.named.is)) ∙ w.named.station_is);
        };
      };
    }
      where
        starts : StartsWith new before
        starts = record { more = ends.later ++ event ∷ []; is = new_is ∙ sym (append_assoc ends.later (event ∷ []) before) }

        a : Allowed P C (unit_of P C before) back (On w.p LoadIt)
        a = legal_then.1.1

        n : IsNamed (unit_of P C new) w.p a.tenant.station a.tenant.tag
        n = named_behind before starts w.adds.legal (none_from new before old starts (record { more = ends.earlier; is = refl }) w.adds.one_table) w.p a.tenant.station a.tenant.tag
            (record { tenant = a.tenant; is = a.is; new = live_is_recent P C before legal_then.0 w.p a.tenant a.is a.may.live; station_is = refl; tag_is = refl; fact = tt })

  -- and it is done with that value
  module _ (station tag p address v : ℕ) (named : IsNamed (unit_of P C old) p station tag) (can : CanLoad P (unit_of P C old) p address v ⊎ IsStale (unit_of P C old) p) where
    pub is_done : (w : IsWritten P C back old new station tag LoadIt (λ q. IsWalk P C new q)) → IsTenant (unit_of P C new) w.p station tag (λ t. t.fate ≡ Done v)
    is_done w =
        let e = event station tag w in
        let s = ends station tag w in
        let all = new_is station tag w in
        let point = before station tag w in
        let here = legal_then station tag w in
        let same : p ≡ w.p = one_named P C new w.adds.legal p w.p station tag (named_on P C back p station tag (w.behind ++ Does (On w.p LoadIt) ∷ []) old new w.adds named) w.named in
        let can_here = back_stays P C (λ U. CanLoad P U p address v ⊎ IsStale U p) step s.earlier old here.0
        (none_to new point old (record { more = s.later ++ e ∷ []; is = all ∙ sym (append_assoc s.later (e ∷ []) point) }) (record { more = s.earlier; is = refl }) w.adds.one_table) s.not_own
        can in
        let done = at_load (unit_of P C point) w.p here.1.1 (subst (λ x. CanLoad P (unit_of P C point) x address v ⊎ IsStale (unit_of P C point) x) same can_here) in
        let there = unit_lasts P C (λ U. Has U w.p (λ t. t.fate ≡ Done v)) (λ U by z al ok h. done_stays P C w.p v U by z al h) s.later (e ∷ point) (subst (IsLegal P C) all w.adds.legal) done in
        let now = subst (λ h. Has (unit_of P C h) w.p (λ t. t.fate ≡ Done v)) (sym all) there in
        with_fact (λ t. t.fate ≡ Done v) w.named (subst (λ (x : Tenant). x.fate ≡ Done v) (same_Some now.tenant w.named.tenant (sym now.is ∙ w.named.is)) now.fact)
      where
        step : (U : UpdateUnit) (by : ℕ) (s : Step) → IsNotBacks s → Allowed P C U by s →
            IsSound P U.tenants → CanLoad P U p address v ⊎ IsStale U p →
            CanLoad P (applied P C U by s) p address v ⊎ IsStale (applied P C U by s) p
        step U by s b al ok (inl c) = load_stays P C U by s b al ok p address v c
        step U by s b al ok (inr g) = inr (gone_stays P C U by s al p g)

        at_load : (U : UpdateUnit) (q : ℕ) (a : Allowed P C U back (On q LoadIt)) → CanLoad P U q address v ⊎ IsStale U q → Has (applied P C U back (On q LoadIt)) q (λ t. t.fate ≡ Done v)
        at_load U q a (inl c) =
            let same = same_Some c.tenant a.tenant (sym c.is ∙ a.is) in
            record {
              tenant = changed P back LoadIt a.tenant (older U.tenants q);
              is = ⊎_elim
                  (λ (z : IsActed P U.tenants back q LoadIt a.tenant q a.tenant). z.now)
                  (λ (z : IsLeft P U.tenants back q LoadIt q a.tenant). absurd (z.position refl))
                  (at_changed P U.tenants back q LoadIt a.tenant a.is q a.tenant a.is);
              fact = ap Done (ap (load_value P (older U.tenants q)) (sym same) ∙ c.value_is);
            }
        at_load U q a (inr g) = absurd (apart (sym a.may.live ∙ (ap (λ (z : Tenant). z.standing) (same_Some a.tenant g.tenant (sym a.is ∙ g.is)) ∙ g.fact)))

  -- One that came too late was squashed
  pub is_gone : (station tag p : ℕ) → IsNamed (unit_of P C old) p station tag → (w : WasStale P C back old new station tag) → IsStale (unit_of P C new) p
  is_gone station tag p named w =
      let e = entry back (Refuses (Stale w.p)) in
      let s = split_last back w.adds.begins.more [] e (added_own P C back old new (Refuses (Stale w.p) ∷ []) w.adds) in
      let before = s.earlier ++ old in
      let new_is : new ≡ s.later ++ e ∷ before = w.adds.begins.is ∙ (ap (λ z. z ++ old) s.is ∙ append_assoc s.later (e ∷ s.earlier) old) in
      let legal = subst (IsLegal P C) new_is w.adds.legal in
      let here = legal_before P C s.later (e ∷ before) legal in
      let same : w.p ≡ p = one_named P C new w.adds.legal w.p p station tag w.named (named_on P C back p station tag (Refuses (Stale w.p) ∷ []) old new w.adds named) in
      let there = unit_lasts P C (λ U. IsStale U w.p) (λ U by z al ok h. gone_stays P C U by z al w.p h) s.later (e ∷ before) legal here.1.1 in
      subst (λ x. IsStale (unit_of P C new) x) same (subst (λ h. IsStale (unit_of P C h) w.p) (sym new_is) there)

-- a squashed load does not wait
pub stale_waits_not : (P : Program) (U : UpdateUnit) (p : ℕ) → IsStale U p → ¬ Has U p (IsWaitingLoad P)
stale_waits_not P U p g w = apart (sym w.fact.load.live ∙ (ap (λ (z : Tenant). z.standing) (same_Some w.tenant g.tenant (sym w.is ∙ g.is)) ∙ g.fact))

pub may_settle : (P : Program) (C : Sizes) (seen : List Entry) (p station tag address v : ℕ) →
    IsNamed (unit_of P C seen) p station tag →
    CanLoad P (unit_of P C seen) p address v ⊎ IsStale (unit_of P C seen) p → MaySettle P C seen station tag v
may_settle P C seen p station tag address v n c = record {
  address = address;
  can = record { p = p; named = n; can = c };
}

-- The whole

module _ (P : Program) (C : Sizes) (old mid late : List Entry) (first : Adds P C back old mid []) (then : Adds P C back mid late []) (station : ℕ) (l : Load) (w : SomeWaits P C old mid station l)
  where
    both : Adds P C back old late []
    both = adds_on P C back old mid late [] [] first then

    pub named_late : IsNamed (unit_of P C late) w.p station l.tag
    named_late = named_on P C back w.p station l.tag [] mid late then w.named

    pub asked_late : IsAskedInOrder P (unit_of P C late) w.p station l
    asked_late = asked_stays P C mid late then w.p station l w.asked

    module _ (new : List Entry) where
      -- no other waits
      others : StartsWith new late → NoOtherWaits P C old new station w.p
      others starts q other h = once_later P C old mid new (λ U. ¬ Has U q (IsWaitingLoad P)) (starts_on mid late new then.begins starts) (w.others q other h)

      none : StartsWith new late → ¬ Has (unit_of P C new) w.p (IsWaitingLoad P) → NoLoadWaits P C old new station
      none starts no_wait q h = dite (ℕ_discrete q w.p)
          (λ same. once_now P C old new (λ U. ¬ Has U q (IsWaitingLoad P)) (starts_on old late new both.begins starts) (λ x. no_wait (subst (λ z. Has (unit_of P C new) z (IsWaitingLoad P)) same x)))
          (λ other. others starts q other h)

      pub did_load : (address v : ℕ) →
          CanLoad P (unit_of P C late) w.p address v ⊎ IsStale (unit_of P C late) w.p →
          IsWritten P C back late new station l.tag LoadIt (λ q. IsWalk P C new q) →
          DidLoad P C back old new station l.tag v
      did_load address v can x = record {
        p = x.p;
        tenant = is_done P C late new station l.tag w.p address v named_late can x;
        carried = x.behind;
        walk = x.carried;
        adds = subst (λ es. Adds P C back old new es) (append-nil (x.behind ++ Does (On x.p LoadIt) ∷ [])) (adds_on P C back old late new [] (x.behind ++ Does (On x.p LoadIt) ∷ []) both x.adds);
        when = once_earlier P C old late new (λ U. Has U x.p (IsLoadAt P station)) both.begins (stood_there P C late new station l.tag x);
      }

      pub came_late : WasStale P C back late new station l.tag → HasPassed P C back old new station
      came_late x = record {
        late = Refuses (Stale x.p) ∷ [];
        are_late = ((x.p, refl), tt);
        adds = adds_on P C back old late new [] (Refuses (Stale x.p) ∷ []) both x.adds;
        none = none x.adds.begins (stale_waits_not P (unit_of P C new) w.p (is_gone P C late new station l.tag w.p named_late x));
      }

      module _ (last : Adds P C back late new []) where
        pub has_gone : ¬ Has (unit_of P C new) w.p (IsWaitingLoad P) → HasPassed P C back old new station
        has_gone no_wait = record { late = []; are_late = tt; adds = adds_on P C back old late new [] [] both last; none = none last.begins no_wait }

        -- it is there, so it was not squashed before
        not_stale : Has (unit_of P C new) w.p (IsLoadOf P station l) → ¬ IsStale (unit_of P C late) w.p
        not_stale h g = stale_waits_not P (unit_of P C new) w.p
            (subst (λ z. IsStale (unit_of P C z) w.p) (sym last.begins.is) (unit_lasts P C (λ U. IsStale U w.p) (λ U by z al ok x. gone_stays P C U by z al w.p x) last.begins.more late
            (subst (IsLegal P C) last.begins.is last.legal) g))
            (record { tenant = h.tenant; is = h.is; fact = record { load = h.fact.load; address = l.address; fate = h.fact.fate } })

        pub holds_back : (s : ℕ) → IsBlockedAt P (unit_of P C late) w.p s ⊎ IsStale (unit_of P C late) w.p → Has (unit_of P C new) w.p (IsLoadOf P station l) → HasHeldBack P C back old new station s
        holds_back s b h = record {
          adds = adds_on P C back old late new [] [] both last;
          p = w.p;
          when = once_later P C old late new (HoldsBack P w.p station s) last.begins (once_now P C old late (HoldsBack P w.p station s) both.begins (record {
            blocked = ⊎_elim (λ x. x) (λ g. absurd (not_stale h g)) b;
            load = ⊎_elim
                (λ (x : Has (unit_of P C late) w.p (IsLoadOf P station l)). record { tenant = x.tenant; is = x.is; fact = record { load = x.fact.load; station_is = x.fact.station_is } })
                (λ g. absurd (not_stale h g))
                asked_late;
          }));
          others = others last.begins;
        }
