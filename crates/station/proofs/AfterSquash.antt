-- What a squash leaves for the next one, and for the mending.
use Rattle.std.proofs.Common.{◌≡◌, ◌≢◌, ℕ, ◌<◌, ◌≤◌, List, [], ◌∷◌, ◌++◌, length, Some, refl, sym, ap, ◌∙◌, subst, inl, inr, ⊎_elim, arith}
use Rattle.std.proofs.lemmas.Option.{same_Some}
use mathlib.Core.Logic.{dite}
use native.Mathlib.Decide.{ℕ_discrete}
use Rattle.instructions.specs.Programs.{Program}
use Rattle.inorder.specs.declared.history.Act.TheVariants.{Squash}
use Rattle.inorder.specs.declared.history.Entry.{Entry}
use Rattle.inorder.specs.declared.history.Event.{Event}
use Rattle.inorder.specs.declared.history.Event.TheVariants.{Does}
use Rattle.inorder.specs.declared.history.Step.TheVariants.{On}
use Rattle.inorder.specs.Callers.{IsMissing}
use Rattle.inorder.specs.History.{IsLegal, entry, front, own, unit_of}
use Rattle.inorder.specs.OneHistory.{Adds}
use Rattle.inorder.specs.Replies.{Has}
use Rattle.inorder.specs.Tenants.{Live, Retired, Squashed, Standing, Tenant}
use Rattle.inorder.specs.Unit.{Sizes, UpdateUnit, at, older}
use Rattle.inorder.proofs.Letting.{IsBesides}
use Rattle.inorder.proofs.Creators.{at_cases}
use Rattle.inorder.proofs.Ends.{miss_stays}
use Rattle.inorder.proofs.Histories.{legal_before, own_none}
use Rattle.inorder.proofs.Moves.{IsActed, IsLeft, at_changed, goes}
use Rattle.inorder.proofs.Positions.{at_below, at_more, at_new}
use Rattle.ruu_words.specs.Kinds.{IsTenant}
use Rattle.ruu_words.proofs.Stays.{front_stays, named_of, named_on}
use Rattle.station.specs.Following.{MissesAreRecovered, MissesStaySeen, MissesStaySquashing}
use Rattle.station.proofs.Splitting.{LastEvent, last_event}
use Rattle.inorder.proofs.Recent.{old_kept}
use Rattle.station.proofs.AfterLet.{behind_last}

module _ (P : Program) (C : Sizes) (p s g x : ℕ) where
  abbrev IsMissAt : UpdateUnit → Type 0
  IsMissAt U = IsTenant U p s g (IsMissing x)

  miss_lasts : (more seen : List Entry) → IsLegal P C (more ++ seen) → own front more ≡ [] → IsMissAt (unit_of P C seen) → IsMissAt (unit_of P C (more ++ seen))
  miss_lasts more seen legal none i = front_stays P C IsMissAt
      (λ U by st besides a ok m.
      let here = miss_stays P C U by st besides a p x (record { tenant = m.tenant; is = m.is; fact = m.fact }) in
      let there = goes P C U by st a ok p m.tenant m.is in
      let one = same_Some there.tenant here.tenant (sym there.is ∙ here.is) in
      record {
        tenant = here.tenant;
        is = here.is;
        new = old_kept P C U by st (λ e. subst IsBesides e besides) a p ∙ m.new;
        station_is = ap (λ (z : Tenant). z.station) (sym one) ∙ (there.goes.station ∙ m.station_is);
        tag_is = ap (λ (z : Tenant). z.tag) (sym one) ∙ (there.goes.tag ∙ m.tag_is);
        fact = here.fact;
      })
      more seen legal none i

  miss_on : (old new : List Entry) → Adds P C front old new [] → IsMissAt (unit_of P C old) → IsMissAt (unit_of P C new)
  miss_on old new a i =
      let is : new ≡ a.begins.more ++ old = a.begins.is in
      subst (λ z. IsMissAt (unit_of P C z)) (sym is) (miss_lasts a.begins.more old (subst (IsLegal P C) is a.legal) (own_none front a.begins.more old (ap (own front) (sym is) ∙ a.mine)) i)

  -- another tenant is squashed
  miss_behind : (r : ℕ) → r ≢ p → (h : List Entry) → IsLegal P C (entry front (Does (On r Squash)) ∷ h) → IsMissAt (unit_of P C h) → IsMissAt (unit_of P C (entry front (Does (On r Squash)) ∷ h))
  miss_behind r ne h legal i =
      let al = legal.1.1 in
      ⊎_elim
      (λ (z : IsActed P (unit_of P C h).tenants front r Squash al.tenant p i.tenant). absurd (ne (sym z.position)))
      (λ (z : IsLeft P (unit_of P C h).tenants front r Squash p i.tenant). record {
        tenant = i.tenant;
        is = z.now;
        new = old_kept P C (unit_of P C h) front (On r Squash) (λ e. cc e) al p ∙ i.new;
        station_is = i.station_is;
        tag_is = i.tag_is;
        fact = i.fact;
      })
      (at_changed P (unit_of P C h).tenants front r Squash al.tenant al.is p i.tenant i.is)

pub misses_stay_seen : MissesStaySeen
misses_stay_seen P C old new s g x a m = record { p = m.p; named = miss_on P C m.p s g x old new a m.named }

pub misses_stay_squashing : MissesStaySquashing
misses_stay_squashing P C old new s g station tag x q ne m =
    let e : Event = Does (On q.p Squash) in
    let l = last_event P C front old new e [] q.adds in
    let at_point = miss_on P C m.p station tag x old l.point l.before m.named in
    let legal : IsLegal P C (entry front e ∷ l.point) = legal_before P C l.after (entry front e ∷ l.point) l.legal in
    record {
      p = m.p;
      named = miss_on P C m.p station tag x (entry front e ∷ l.point) new (behind_last P C old new e [] l) (miss_behind P C m.p station tag x q.p (apart l) l.point legal at_point);
    }
  where
    apart : (l : LastEvent P C front old new (Does (On q.p Squash)) []) → q.p ≢ m.p
    apart l same =
        let now = named_on P C front m.p station tag (Does (On q.p Squash) ∷ []) old new q.adds (named_of m.named) in
        let one : q.named.tenant ≡ now.tenant = same_Some q.named.tenant now.tenant (sym q.named.is ∙ (ap (at (unit_of P C new).tenants) same ∙ now.is)) in
        ⊎_elim
        (λ n. n (sym now.station_is ∙ (ap (λ (z : Tenant). z.station) (sym one) ∙ q.named.station_is)))
        (λ n. n (sym now.tag_is ∙ (ap (λ (z : Tenant). z.tag) (sym one) ∙ q.named.tag_is)))
        ne

-- The youngest live tenant, not older than one that is live
record YoungestLive (us : List Tenant) (p : ℕ) : Type 0 where
  pub q : ℕ
  pub tenant : Tenant
  pub is : at us q ≡ Some tenant
  pub live : tenant.standing ≡ Live
  pub above : p ≤ q
  pub youngest : (r : ℕ) (v : Tenant) → q < r → at us r ≡ Some v → v.standing ≢ Live

youngest_live : (us : List Tenant) (p : ℕ) (t : Tenant) → at us p ≡ Some t → t.standing ≡ Live → YoungestLive us p
youngest_live [] p t is live = absurd (cc is)
youngest_live (u ∷ us) p t is live = go (youngest_live us p t) u.standing refl
  where
    gone : (at us p ≡ Some t → t.standing ≡ Live → YoungestLive us p) → u.standing ≢ Live → YoungestLive (u ∷ us) p
    gone older dead = ⊎_elim
        (λ (was : at us p ≡ Some t).
        let y = older was live in
        record {
          q = y.q;
          tenant = y.tenant;
          is = at_more u us y.q y.tenant y.is;
          live = y.live;
          above = y.above;
          youngest = λ r v less at_r. ⊎_elim
              (λ (old : at us r ≡ Some v). y.youngest r v less old)
              (λ (new : (r ≡ length us) × (u ≡ v)). subst (λ (z : Tenant). z.standing ≢ Live) new.1 dead)
              (at_cases u us r v at_r);
        })
        (λ (e : (p ≡ length us) × (u ≡ t)). absurd (dead (ap (λ (z : Tenant). z.standing) e.1 ∙ live)))
        (at_cases u us p t is)

    go : (at us p ≡ Some t → t.standing ≡ Live → YoungestLive us p) → (st : Standing) → u.standing ≡ st → YoungestLive (u ∷ us) p
    go older Live e =
        let small = at_below (u ∷ us) p t is in
        record {
          q = length us;
          tenant = u;
          is = at_new u us;
          live = e;
          above = omega arith;
          youngest = λ r v less at_r. let beyond = at_below (u ∷ us) r v at_r in absurd (omega arith);
        }
    go older Retired e = gone older (λ is_live. let both : Live ≡ Retired = sym is_live ∙ e in cc both)
    go older Squashed e = gone older (λ is_live. let both : Live ≡ Squashed = sym is_live ∙ e in cc both)

pub misses_are_recovered : MissesAreRecovered
misses_are_recovered P C seen s g x m =
    let t = m.named in
    let miss : Has (unit_of P C seen) m.p (IsMissing x) = record { tenant = t.tenant; is = t.is; fact = t.fact } in
    let y = youngest_live (unit_of P C seen).tenants m.p t.tenant t.is t.fact.live in
    dite (ℕ_discrete y.q m.p)
    (λ (same : y.q ≡ m.p). inr (record {
      p = m.p;
      named = named_of t;
      can = record { miss = miss; youngest = λ r v less at_r. y.youngest r v (subst (λ z. z < r) (sym same) less) at_r };
    }))
    (λ ne. let above = y.above in inl (record {
      p = y.q;
      can = record { tenant = record { tenant = y.tenant; is = y.is; fact = y.live }; youngest = y.youngest; q = m.p; x = x; before = omega arith; miss = miss };
    }))
