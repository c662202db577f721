-- What was found of the stations up to one.
use Rattle.std.proofs.Common.{◌≡◌, ◌≢◌, ◌⊎◌, ℕ, ◌+◌, ◌<◌, List, [], ◌∷◌, ◌++◌, Option, Some, None, refl, sym, ap, ◌∙◌, subst, inl, inr, ⊎_elim, arith}
use Rattle.std.specs.List.{AllByRecursion}
use Rattle.std.proofs.lemmas.Option.{same_Some}
use Rattle.std.proofs.lemmas.Bool.{cases_lt}
use mathlib.Core.Logic.{dite}
use native.Mathlib.Decide.{ℕ_discrete}
use Rattle.instructions.specs.Instruction.{kind}
use Rattle.instructions.specs.Programs.{Program, instr_of}
use Rattle.inorder.specs.declared.history.Entry.{Entry}
use Rattle.inorder.specs.declared.history.Event.{Event}
use Rattle.inorder.specs.History.{back, unit_of}
use Rattle.instructions.specs.Histories.{StartsWith}
use Rattle.inorder.specs.OneHistory.{Adds}
use Rattle.inorder.specs.Replies.{Has}
use Rattle.inorder.specs.Tenants.{Live, Retired, Squashed, Standing, Tenant}
use Rattle.inorder.specs.Unit.{Sizes}
use Rattle.inorder.proofs.Histories.{adds_on}
use Rattle.station.specs.Moments.{WasOnce}
use Rattle.back.specs.Loads.{Blocks, IsWaitingLoad, WasBlocked, WasNotWaiting}
use Rattle.back.specs.Port.{station_behind}
use Rattle.back.specs.Refreshes.{IsTooLate}
use Rattle.back.specs.Scans.{EachBehind, FirstIs, IsFirstBlocked, Scanned}
use Rattle.back.specs.Trials.{HasHeldBack, HasPassed, HoldsBack, IsLoadAt, NoOtherWaits, NoLoadWaits}
use Rattle.back.proofs.Moments.{once_earlier, once_later, once_now}
use Rattle.back.proofs.Standing.{since_at}

live_or_not : (s : Standing) → (s ≡ Live) ⊎ (s ≢ Live)
live_or_not Live = inl refl
live_or_not Retired = inr (λ e. cc e)
live_or_not Squashed = inr (λ e. cc e)

module _ (P : Program) (C : Sizes) (old cur new : List Entry) (late : List Event) (a : Adds P C back old cur late) (new_begins : StartsWith new cur) (station : ℕ) where
  -- a load that was live when the call began still is, or does not wait now
  load_now : (q : ℕ) → Has (unit_of P C old) q (IsLoadAt P station) → Has (unit_of P C cur) q (IsLoadAt P station) ⊎ WasNotWaiting P C old new q
  load_now q h =
      let u = since_at P C old cur a.begins a.legal q h.tenant h.is in ⊎_elim
      (λ live. inl (record {
        tenant = u.tenant;
        is = u.is;
        fact = record {
          load = record { live = live; kind = ap (λ i. kind (instr_of P i).op) u.since.index ∙ h.fact.load.kind };
          station_is = u.since.station ∙ h.fact.station_is;
        };
      }))
      (λ gone. inr (once_later P C old cur new (λ U. ¬ Has U q (IsWaitingLoad P)) new_begins (once_now P C old cur (λ U. ¬ Has U q (IsWaitingLoad P)) a.begins
      (λ w. gone (ap (λ (z : Tenant). z.standing) (same_Some u.tenant w.tenant (sym u.is ∙ w.is)) ∙ w.fact.load.live)))))
      (live_or_not u.tenant.standing)

  earlier : (q : ℕ) → WasNotWaiting P C cur new q → WasNotWaiting P C old new q
  earlier q w = once_earlier P C old cur new (λ U. ¬ Has U q (IsWaitingLoad P)) a.begins w

  pub none_on : NoLoadWaits P C cur new station → (q : ℕ) → Has (unit_of P C old) q (IsLoadAt P station) → WasNotWaiting P C old new q
  none_on n q h = ⊎_elim (λ x. earlier q (n q x)) (λ w. w) (load_now q h)

  pub held_on : (p s : ℕ) → WasOnce P C cur new (HoldsBack P p station s) →
      NoOtherWaits P C cur new station p → (q : ℕ) → Has (unit_of P C old) q (IsLoadAt P station) →
      WasNotWaiting P C old new q ⊎ WasBlocked P C old new q
  held_on p s w n q h = dite (ℕ_discrete q p)
      (λ same. inr (once_earlier P C old cur new (λ U. (r : ℕ) × Blocks P U q r) a.begins (record {
        point = w.point;
        within = w.within;
        fact = (w.fact.blocked.q, subst (λ x. Blocks P (unit_of P C w.point) x w.fact.blocked.q) (sym same) w.fact.blocked.blocks);
      })))
      (λ other. ⊎_elim (λ x. inl (earlier q (n q other x))) (λ y. inl y) (load_now q h))

-- What was found lasts

module _ (P : Program) (C : Sizes) (old cur new : List Entry) (head ring k : ℕ) (new_begins : StartsWith new cur) where
  not_later : (q : ℕ) → WasNotWaiting P C old cur q → WasNotWaiting P C old new q
  not_later q w = once_later P C old cur new (λ U. ¬ Has U q (IsWaitingLoad P)) new_begins w

  pub either_later : (q : ℕ) → WasNotWaiting P C old cur q ⊎ WasBlocked P C old cur q → WasNotWaiting P C old new q ⊎ WasBlocked P C old new q
  either_later q (inl w) = inl (not_later q w)
  either_later q (inr w) = inr (once_later P C old cur new (λ U. (r : ℕ) × Blocks P U q r) new_begins w)

  first_later : (b : Option (ℕ × ℕ)) → FirstIs P C old cur head ring k b → FirstIs P C old new head ring k b
  first_later None f = λ j lt q h. not_later q (f j lt q h)
  first_later (Some b) f = record {
    place = f.place;
    bound = f.bound;
    load_is = f.load_is;
    p = f.p;
    when = once_later P C old cur new (HoldsBack P f.p (station_behind head ring f.place) b.1) new_begins f.when;
    before = λ j lt q h. not_later q (f.before j lt q h);
  }

-- one station more
here_or : (k k' j : ℕ) → k' ≡ k + 1 → j < k' → (j < k) ⊎ (j ≡ k)
here_or k k' j next lt = elim (cases_lt j k) [
  | inl less ↦ inl less
  | inr le ↦ inr (omega (arith, le, lt, next))
]

module _ (P : Program) (C : Sizes) (old cur new : List Entry) (head ring k k' : ℕ) (next : k' ≡ k + 1) (blocked : Option (ℕ × ℕ)) (s : Scanned P C back old cur head ring k blocked) where
  each_on : (new_begins : StartsWith new cur) → ((q : ℕ) → Has (unit_of P C old) q (IsLoadAt P (station_behind head ring k)) → WasNotWaiting P C old new q ⊎ WasBlocked P C old new q)
      → EachBehind P C old head ring k' (λ q. WasNotWaiting P C old new q ⊎ WasBlocked P C old new q)
  each_on new_begins f j lt q h = ⊎_elim
      (λ less. either_later P C old cur new head ring k new_begins q (s.each j less q h))
      (λ same. f q (subst (λ x. Has (unit_of P C old) q (IsLoadAt P (station_behind head ring x))) same h))
      (here_or k k' j next lt)

  first_on : (b : Option (ℕ × ℕ)) → FirstIs P C old new head ring k b →
      ((q : ℕ) → Has (unit_of P C old) q (IsLoadAt P (station_behind head ring k)) → WasNotWaiting P C old new q) →
      FirstIs P C old new head ring k' b
  first_on None f g = λ j lt q h. ⊎_elim (λ less. f j less q h) (λ same. g q (subst (λ x. Has (unit_of P C old) q (IsLoadAt P (station_behind head ring x))) same h)) (here_or k k' j next lt)
  first_on (Some b) f g = record { place = f.place; bound = let l = f.bound in omega (arith, l, next); load_is = f.load_is; p = f.p; when = f.when; before = f.before }

  late_more : (late : List Event) → AllByRecursion IsTooLate late → AllByRecursion IsTooLate s.late → AllByRecursion IsTooLate (late ++ s.late)
  late_more [] x y = y
  late_more (e ∷ es) x y = (x.0, late_more es x.1 y)

  pub passed_on : HasPassed P C back cur new (station_behind head ring k) → Scanned P C back old new head ring k' blocked
  passed_on x =
      let none = none_on P C old cur new s.late s.adds x.adds.begins (station_behind head ring k) x.none in
      record {
        late = x.late ++ s.late;
        are_late = late_more x.late x.are_late s.are_late;
        adds = adds_on P C back old cur new s.late x.late s.adds x.adds;
        each = each_on x.adds.begins (λ q h. inl (none q h));
        first = first_on blocked (first_later P C old cur new head ring k x.adds.begins blocked s.first) none;
      }

  module _ (store : ℕ) (x : HasHeldBack P C back cur new (station_behind head ring k) store) where
    held_each : EachBehind P C old head ring k' (λ q. WasNotWaiting P C old new q ⊎ WasBlocked P C old new q)
    held_each = each_on x.adds.begins (λ q h. held_on P C old cur new s.late s.adds x.adds.begins (station_behind head ring k) x.p store x.when x.others q h)

    -- the first one
    pub held_first : blocked ≡ None → Scanned P C back old new head ring k' (Some (station_behind head ring k, store))
    held_first none = record {
      late = s.late;
      are_late = s.are_late;
      adds = adds_on P C back old cur new s.late [] s.adds x.adds;
      each = held_each;
      first = record {
        place = k;
        bound = omega (arith, next);
        load_is = refl;
        p = x.p;
        when = once_earlier P C old cur new (HoldsBack P x.p (station_behind head ring k) store) s.adds.begins x.when;
        before = first_later P C old cur new head ring k x.adds.begins None (subst (λ b. FirstIs P C old cur head ring k b) none s.first);
      };
    }

    -- or another
    pub held_more : (b : ℕ × ℕ) → blocked ≡ Some b → Scanned P C back old new head ring k' blocked
    held_more b some = record {
      late = s.late;
      are_late = s.are_late;
      adds = adds_on P C back old cur new s.late [] s.adds x.adds;
      each = held_each;
      first = subst (λ o. FirstIs P C old new head ring k' o) (sym some) (keep (first_later P C old cur new head ring k x.adds.begins (Some b)
          (subst (λ o. FirstIs P C old cur head ring k o) some s.first)));
    }
      where
        keep : IsFirstBlocked P C old new head ring k b.0 b.1 → IsFirstBlocked P C old new head ring k' b.0 b.1
        keep f = record { place = f.place; bound = let l = f.bound in omega (arith, l, next); load_is = f.load_is; p = f.p; when = f.when; before = f.before }
