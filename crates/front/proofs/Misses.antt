-- Misses: what a look at each tenant says of them.
use Rattle.std.proofs.Common.{◌≡◌, ◌≢◌, ℕ, zero, suc, ◌+◌, true, false, true≢false, List, [], ◌∷◌, take, Some, sym, ap, ◌∙◌, subst, ⊎_elim, arith}
use Rattle.std.proofs.lemmas.Bool.{cases_lt}
use Rattle.std.specs.List.{AllByRecursion}
use Rattle.std.specs.Prelude.{slice_get}
use Rattle.std.proofs.lemmas.Option.{same_Some}
use Rattle.instructions.specs.Programs.{Program}
use Rattle.inorder.specs.declared.history.Entry.{Entry}
use Rattle.inorder.specs.History.{IsLegal, front, taken_of, unit_of}
use Rattle.inorder.specs.OneHistory.{Adds}
use Rattle.inorder.specs.Callers.{IsMissing}
use Rattle.inorder.specs.Replies.{Has, HasNoMiss}
use Rattle.inorder.specs.Tenants.{Live, Retired, Tenant, on_path, stands_on_path}
use Rattle.inorder.specs.Unit.{Sizes, UpdateUnit, at, older, recent, younger}
use Rattle.inorder.proofs.Ends.{miss_stays}
use Rattle.ruu_words.specs.declared.station.StationState.{StationState}
use Rattle.ruu_words.specs.declared.station.StationState.TheVariants.{Free, Miss as MissState}
use Rattle.ruu_words.proofs.Stays.{place_stays}
use Rattle.station.specs.declared.answers.Seen.{Seen}
use Rattle.station.specs.Looking.{SeesStation}
use Rattle.front.specs.Path.{rested_at}
use Rattle.front.specs.declared.path.base_state.Base.{Base}
use Rattle.front.specs.declared.path.record.Record.{Record}
use Rattle.front.specs.Knows.{IsFolded, IsGone, IsNewest, FrontKnows}
use Rattle.front.specs.Recoveries.{IsMiss, IsNoLiveMiss, may_miss}
use Rattle.front.specs.Trail.{Note, record_of}
use Rattle.front.proofs.Lists.{all_both, all_map, all_two}
use Rattle.front.proofs.Looks.{finds_miss, live_there, same_place, shows_miss}
use Rattle.front.proofs.Named.{all_get, all_whats, notes_noted, of_whats}
use Rattle.front.proofs.Splitting.{IsStable, stays}
use Rattle.front.proofs.Trails.{IsNoted, trail_all}
use Rattle.inorder.proofs.Fated.{follows_from}
use Rattle.inorder.proofs.Grows.{sound_mid}
use Rattle.inorder.proofs.Histories.{allowed_steps, unit_sound}
use Rattle.inorder.proofs.Basics.{split_at}
use Rattle.inorder.proofs.Positions.{younger_at}
use Rattle.inorder.proofs.Recent.{live_is_last, live_is_recent, old_are_gone}
use Rattle.inorder.proofs.Sound.{IsSound}
use Rattle.inorder.proofs.Stations.{is_ring, stands}
use Rattle.front.proofs.Jumps.{only_jumps}

not_free : MissState ≢ Free
not_free e = cc e

gone_live : Retired ≢ Live
gone_live e = cc e

pub miss_stable : (P : Program) (C : Sizes) (p x : ℕ) → IsStable P C (λ U. Has U p (IsMissing x))
miss_stable P C p x U by s b a ok i = miss_stays P C U by s b a p x i

-- all of the records, one more looked at
pub all_one_more : (Q : Record → Type 0) (xs : List Record) (i : ℕ) (x : Record) → AllByRecursion Q (take i xs) → slice_get xs i ≡ Some x → Q x → AllByRecursion Q (take (i + 1) xs)
all_one_more Q xs i x a e q = let one : suc i ≡ i + 1 = omega arith in subst (λ z. AllByRecursion Q (take z xs)) one (go xs i a e)
  where
    go : (xs : List Record) (i : ℕ) → AllByRecursion Q (take i xs) → slice_get xs i ≡ Some x → AllByRecursion Q (take (suc i) xs)
    go [] i a e = absurd (cc e)
    go (y ∷ ys) zero a e = let same : x ≡ y = cc (sym e) in (subst Q same q, tt)
    go (y ∷ ys) (suc i) a e = (a.0, go ys i a.1 e)

module _ (P : Program) (C : Sizes) where
  -- the look at a tenant that is no miss: it was none when the call began
  pub was_none : (old new : List Entry) (r : Record) (seen : Seen StationState) → Adds P C front old new [] →
      SeesStation P C new r.station seen → seen.state ≢ MissState → IsNoLiveMiss (unit_of P C old) r
  was_none old new r seen adds sees ne p x t is place tag m =
      let now = stays P C (λ U. Has U p (IsMissing x)) (miss_stable P C p x) old new adds (record { tenant = t; is = is; fact = m }) in
      let still = place_stays P C p t adds.begins.more old (subst (IsLegal P C) adds.begins.is adds.legal) is in
      let there : at (unit_of P C new).tenants p ≡ Some still.tenant = ap (λ z. at (unit_of P C z).tenants p) adds.begins.is ∙ still.is in
      let at_place : now.tenant.station ≡ r.station = ap (λ (z : Tenant). z.station) (same_Some now.tenant still.tenant (sym now.is ∙ there)) ∙ (still.fact.0 ∙ place) in
      ne (shows_miss P C new adds.legal r.station seen sees p x now.tenant now.is at_place now.fact)

  module _ (h : List Entry) (legal : IsLegal P C h) (records : List Record) (base : Base) (k : FrontKnows P C (unit_of P C h) records base) where
    abbrev U : UpdateUnit
    U = unit_of P C h

    -- the tenant of each record, and that nobody follows it there
    pub record IsThere (x : Record) : Type 0 where
      pub p : ℕ
      pub tenant : Tenant
      pub is : at U.tenants p ≡ Some tenant
      pub on : on_path tenant ≡ true
      pub what : record_of P tenant ≡ x
      pub last : Rattle.inorder.specs.Callers.IsLastAt U p x.station

    pub are_there : AllByRecursion IsThere records
    are_there = subst (AllByRecursion IsThere) (sym k.are) (all_whats IsThere k.notes (all_two (IsNoted P U.tenants) (IsNewest U) (λ n. IsThere n.what)
        (λ n i l. record { p = n.at; tenant = i.tenant; is = i.is; on = i.on; what = i.what; last = l }) k.notes (notes_noted P C h legal records base (IsFolded U (rested_at base)) k) k.newest))

    -- the look at a tenant that is a miss
    pub is_miss : (i : ℕ) (x : Record) (seen : Seen StationState) → slice_get records i ≡ Some x → SeesStation P C h x.station seen → seen.state ≡ MissState → IsMiss P C h x seen.value
    is_miss i x seen e sees miss =
        let there = all_get IsThere records are_there i x e in
        let b = live_there P C h legal x.station seen sees (λ f. not_free (sym miss ∙ f)) in
        let place : there.tenant.station ≡ x.station = ap (λ (z : Record). z.station) there.what in
        let same = same_place P C h legal x.station seen sees b there.p there.tenant there.is place there.last in
        let one : b.tenant ≡ there.tenant = same_Some b.tenant there.tenant (sym b.is ∙ (ap (at U.tenants) same ∙ there.is)) in
        record {
          p = there.p;
          tenant = record {
            tenant = there.tenant;
            is = there.is;
            new = live_is_recent P C h legal there.p there.tenant there.is (ap (λ (z : Tenant). z.standing) (sym one) ∙ b.live);
            station_is = place;
            tag_is = ap (λ (z : Record). z.tag) there.what;
            fact = record { live = ap (λ (z : Tenant). z.standing) (sym one) ∙ b.live; fate = ap (λ (z : Tenant). z.fate) (sym one) ∙ finds_miss P C h legal x.station seen sees miss b };
          };
        }

    -- who is no jump is no miss
    pub no_jump_misses : (i : ℕ) (x : Record) → slice_get records i ≡ Some x → may_miss x ≡ false → IsNoLiveMiss U x
    no_jump_misses i x e none p y t is place tag m =
        let us = U.tenants in
        let there = all_get IsThere records are_there i x e in
        let its : there.tenant.station ≡ t.station = ap (λ (z : Record). z.station) there.what ∙ sym place in
        let ring = is_ring C (recent U) (stands P C (taken_of h) (allowed_steps P C h legal)) in
        let last = live_is_last C U ring (old_are_gone P C h legal) p t is m.live in
        let same : p ≡ there.p = ⊎_elim
        (λ lt. absurd (younger_at (λ u. u.station ≢ t.station) us p last there.p there.tenant lt there.is its))
        (λ ge. ⊎_elim (λ gt. absurd (there.last p t gt is place)) (λ le. omega (arith, ge, le)) (cases_lt there.p p))
        (cases_lt p there.p) in
        let one : t ≡ there.tenant = same_Some t there.tenant (sym is ∙ (ap (at us) same ∙ there.is)) in
        let own = (sound_mid P t (older us p) (younger us p) (subst (IsSound P) (split_at us p t is) (unit_sound P C h legal))).own in
        let may = only_jumps P t y ((follows_from P (older us p) t own).fate.miss y m.fate) in
        true≢false (sym may ∙ (ap (λ z. may_miss (record_of P z)) one ∙ (ap may_miss there.what ∙ none)))

    pub gone_miss : (n : Note) → IsGone U n → (x : ℕ) (t : Tenant) → at U.tenants n.at ≡ Some t → ¬ IsMissing x t
    gone_miss n g x t is m = gone_live (sym g.fact ∙ (ap (λ (z : Tenant). z.standing) (same_Some g.tenant t (sym g.is ∙ is)) ∙ m.live))

    pub named_miss : (n : Note) → IsNoted P U.tenants n → IsNoLiveMiss U n.what → (x : ℕ) (t : Tenant) → at U.tenants n.at ≡ Some t → ¬ IsMissing x t
    named_miss n i none x t is m =
        let one = same_Some i.tenant t (sym i.is ∙ is) in
        none n.at x t is (ap (λ (z : Tenant). z.station) (sym one) ∙ ap (λ (z : Record). z.station) i.what) (ap (λ (z : Tenant). z.tag) (sym one) ∙ ap (λ (z : Record). z.tag) i.what) m

    -- no record is a miss: nobody is
    pub no_miss : AllByRecursion (IsNoLiveMiss U) records → HasNoMiss U
    no_miss all p x t is live fate =
        let Q : Note → Type 0 = λ n. (x : ℕ) (t : Tenant) → at U.tenants n.at ≡ Some t → ¬ IsMissing x t in
        let named = all_two (IsNoted P U.tenants) (λ n. IsNoLiveMiss U n.what) Q named_miss k.notes (notes_noted P C h legal records base (IsFolded U (rested_at base)) k)
        (of_whats (IsNoLiveMiss U) k.notes (subst (AllByRecursion (IsNoLiveMiss U)) k.are all)) in
        let everybody = subst (AllByRecursion Q) (sym k.path) (all_both Q k.gone k.notes (all_map (IsGone U) Q gone_miss k.gone k.retired) named) in
        trail_all P Q U.tenants everybody p t is (ap stands_on_path live) x t is (record { live = live; fate = fate })
