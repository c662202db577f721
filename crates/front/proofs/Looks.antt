-- What a look at a station shows of the tenants there.
use Rattle.std.proofs.Common.{◌≡◌, ◌≢◌, ℕ, List, Some, refl, sym, ap, ◌∙◌, subst, ⊎_elim, arith}
use Rattle.std.proofs.lemmas.Bool.{cases_lt}
use Rattle.instructions.specs.Programs.{Program}
use Rattle.inorder.specs.declared.history.Entry.{Entry}
use Rattle.inorder.specs.History.{IsLegal, front, taken_of, unit_of}
use Rattle.inorder.specs.Callers.{IsLastAt, IsMissing}
use Rattle.inorder.specs.StationWords.{HasFate, IsBusy as IsBusyState, IsDone as IsDoneState, IsFree, IsMiss as IsMissState, IsOpen as IsOpenState, IsAddr as IsAddrState, IsStop as IsStopState}
use Rattle.inorder.specs.StationWords.{NamedBy, StationState as Shown, StationWord, live_word, station_word}
use Rattle.inorder.specs.Tenants.{Live, Miss, Tenant}
use Rattle.inorder.specs.Unit.{at, recent, Sizes, UpdateUnit, younger}
use Rattle.inorder.proofs.Histories.{allowed_steps}
use Rattle.inorder.proofs.Positions.{younger_at}
use Rattle.inorder.proofs.StationsShown.{stations_follow}
use Rattle.ruu_words.specs.declared.station.StationState.{StationState}
use Rattle.ruu_words.specs.declared.station.StationState.TheVariants.{Free, Open, Busy, Addr, Done, Miss as MissState, Stop}
use Rattle.ruu_words.specs.Content.{HasValue, code}
use Rattle.ruu_words.specs.States.{state_code}
use Rattle.station.specs.declared.answers.Seen.{Seen}
use Rattle.station.specs.Looking.{SeesStation}
use Rattle.inorder.proofs.Recent.{IsRecentAt, among_all, live_is_recent, recent_at, younger_recent}
use Rattle.std.specs.List.{AllByRecursion}

-- the states by their numbers
pub free_is : (s : Shown) → code s ≡ 0 → s ≡ IsFree
free_is IsFree e = refl
free_is IsOpenState e = absurd (omega arith)
free_is IsBusyState e = absurd (omega arith)
free_is IsAddrState e = absurd (omega arith)
free_is IsDoneState e = absurd (omega arith)
free_is IsMissState e = absurd (omega arith)
free_is IsStopState e = absurd (omega arith)

pub miss_is : (s : Shown) → code s ≡ 5 → s ≡ IsMissState
miss_is IsFree e = absurd (omega arith)
miss_is IsOpenState e = absurd (omega arith)
miss_is IsBusyState e = absurd (omega arith)
miss_is IsAddrState e = absurd (omega arith)
miss_is IsDoneState e = absurd (omega arith)
miss_is IsMissState e = refl
miss_is IsStopState e = absurd (omega arith)

pub miss_state : (s : StationState) → state_code s ≡ 5 → s ≡ MissState
miss_state Free e = absurd (omega arith)
miss_state Open e = absurd (omega arith)
miss_state Busy e = absurd (omega arith)
miss_state Addr e = absurd (omega arith)
miss_state Done e = absurd (omega arith)
miss_state MissState e = refl
miss_state Stop e = absurd (omega arith)

pub free_state : (s : StationState) → state_code s ≡ 0 → s ≡ Free
free_state Free e = refl
free_state Open e = absurd (omega arith)
free_state Busy e = absurd (omega arith)
free_state Addr e = absurd (omega arith)
free_state Done e = absurd (omega arith)
free_state MissState e = absurd (omega arith)
free_state Stop e = absurd (omega arith)

-- The live tenant that a station's word names, among all tenants
pub record NamedNow (C : Sizes) (U : UpdateUnit) (s : ℕ) : Type 0 where
  pub p : ℕ
  pub tenant : Tenant
  pub is : at U.tenants p ≡ Some tenant
  pub live : tenant.standing ≡ Live
  pub station : tenant.station ≡ s
  pub tag : tenant.tag ≡ (station_word C (recent U) s).tag
  pub fate : HasFate (station_word C (recent U) s).state (station_word C (recent U) s).value tenant.fate
  pub last : AllByRecursion (λ u. u.station ≢ s) (younger U.tenants p)

pub named_now : (C : Sizes) (U : UpdateUnit) (s : ℕ) → NamedBy C (recent U) s → NamedNow C U s
named_now C U s b =
    let a = among_all U b.p b.tenant b.is in
    let x : IsRecentAt U a.p b.tenant = record { r = b.p; is = b.is; position = a.position } in
    record {
      p = a.p;
      tenant = b.tenant;
      is = a.is;
      live = b.live;
      station = b.station;
      tag = b.tag;
      fate = b.fate;
      last = subst (AllByRecursion (λ u. u.station ≢ s)) (younger_recent U a.p b.tenant x) b.last;
    }

module _ (P : Program) (C : Sizes) (h : List Entry) (legal : IsLegal P C h) (s : ℕ) (seen : Seen StationState) (sees : SeesStation P C h s seen) where
  abbrev U : UpdateUnit
  U = unit_of P C h

  abbrev shows : Rattle.inorder.specs.StationWords.WordsShow C (recent U)
  shows = (stations_follow P C (taken_of h) front).shows (allowed_steps P C h legal)

  -- a live miss shows as one
  pub shows_miss : (p x : ℕ) (t : Tenant) → at U.tenants p ≡ Some t → t.station ≡ s → IsMissing x t → seen.state ≡ MissState
  shows_miss p x t is place m =
      let its = recent_at U p t is (live_is_recent P C h legal p t is m.live) in
      let word : station_word C (recent U) s ≡ live_word t.tag (Miss x) = ap (station_word C (recent U)) (sym place) ∙ (shows.live its.r t its.is m.live ∙ ap (live_word t.tag) m.fate) in
      miss_state seen.state (sees.state_is ∙ ap (λ (w : StationWord). code w.state) word)

  -- a station that is not free shows a live tenant
  pub live_there : seen.state ≢ Free → NamedNow C U s
  live_there ne = named_now C U s (shows.names s (λ e. ne (free_state seen.state (sees.state_is ∙ ap code e))))

  -- and it is the one that nobody there follows
  pub same_place : (b : NamedNow C U s) (q : ℕ) (u : Tenant) → at U.tenants q ≡ Some u → u.station ≡ s → IsLastAt U q s → b.p ≡ q
  same_place b q u is place last = ⊎_elim
      (λ lt. absurd (younger_at (λ v. v.station ≢ s) U.tenants b.p b.last q u lt is place))
      (λ ge. ⊎_elim (λ gt. absurd (last b.p b.tenant gt b.is b.station)) (λ le. omega (arith, ge, le)) (cases_lt q b.p))
      (cases_lt b.p q)

  -- a miss, and where it goes on
  pub finds_miss : seen.state ≡ MissState → (b : NamedNow C U s) → b.tenant.fate ≡ Miss seen.value
  finds_miss e b =
      let shown : (station_word C (recent U) s).state ≡ IsMissState = miss_is (station_word C (recent U) s).state (sym sees.state_is ∙ ap state_code e) in
      let f : HasFate IsMissState (station_word C (recent U) s).value b.tenant.fate = subst (λ z. HasFate z (station_word C (recent U) s).value b.tenant.fate) shown b.fate in
      let v : HasValue (Some f.0) seen.value = subst (λ z. HasValue z seen.value) f.1 sees.value_is in
      f.2 ∙ ap Miss (sym v)
