-- The last tenants of stations, and whether all stations are in use.
use Rattle.std.proofs.Common.{◌≡◌, ◌≢◌, ◌⊎◌, ℕ, suc, ◌+◌, ◌<◌, ◌≤◌, true, false, List, [], ◌∷◌, ◌++◌, length, Option, Some, None, refl, sym, ap, ◌∙◌, subst}
use Rattle.std.proofs.Common.{⊎_elim, arith, true≢false}
use Rattle.std.proofs.lemmas.Bool.{cases_lt}
use Rattle.std.specs.List.{AllByRecursion}
use Rattle.std.proofs.lemmas.Option.{same_Some}
use Rattle.instructions.specs.Programs.{Program}
use Rattle.inorder.specs.declared.history.Entry.{Entry}
use Rattle.inorder.specs.declared.history.Supply.TheVariants.{Known}
use Rattle.inorder.specs.History.{IsLegal, unit_of}
use Rattle.inorder.specs.Callers.{IsLastAt}
use Rattle.inorder.specs.Replies.{IsFull}
use Rattle.inorder.specs.StationWords.{IsFree, StationWord, last_of, left_value, station_word, station_word_of, word_by}
use Rattle.inorder.specs.Steps.{new_tenant}
use Rattle.inorder.specs.Tenants.{Live, Retired, Squashed, Standing, Tenant, is_live, on_path, stands_live, stands_on_path}
use Rattle.inorder.specs.Unit.{Sizes, UpdateUnit, at, how_many, is_old, next_station, next_tag, recent}
use Rattle.inorder.proofs.Histories.{unit_sound}
use Rattle.inorder.proofs.Positions.{all_at}
use Rattle.inorder.proofs.Stations.{IsElsewhere, all_elsewhere, fewer_newest, settling, settling_newest}
use Rattle.ruu_words.specs.declared.station.StationState.{StationState}
use Rattle.ruu_words.specs.declared.station.StationState.TheVariants.{Free}
use Rattle.ruu_words.specs.Content.{HasValue}
use Rattle.ruu_words.specs.Kinds.{IsTenant}
use Rattle.ruu_words.specs.States.{state_code}
use Rattle.station.specs.declared.answers.Seen.{Seen}
use Rattle.station.specs.Looking.{SeesStation}
use Rattle.front.specs.Path.{rested_at}
use Rattle.front.specs.declared.path.base_state.Base.{Base}
use Rattle.front.specs.declared.path.record.Record.{Record}
use Rattle.front.specs.Fetching.{HasLeft}
use Rattle.front.specs.Knows.{IsFolded, IsGone, IsNewest, FrontKnows}
use Rattle.front.specs.Trail.{Note, trail}
use Rattle.front.proofs.Counts.{SaysAt, FailsAt, at_most, count}
use Rattle.front.proofs.Lists.{all_both, all_map}
use Rattle.front.proofs.Looks.{free_is}
use Rattle.front.proofs.Named.{notes_noted, stands_right}
use Rattle.front.proofs.Places.{kept_new, oldest_place}
use Rattle.front.proofs.Trails.{IsNoted}
use Rattle.inorder.proofs.Recent.{last_of_recent, live_is_recent, recent_at}

-- the last tenant of a station
pub record LastSpot (us : List Tenant) (s : ℕ) (t : Tenant) : Type 0 where
  pub p : ℕ
  pub is : at us p ≡ Some t
  pub place : t.station ≡ s
  pub last : (q : ℕ) (u : Tenant) → p < q → at us q ≡ Some u → u.station ≢ s

live_on_path : (t : Tenant) → is_live t ≡ true → on_path t ≡ true
live_on_path t h = go t.standing refl
  where
    go : (st : Standing) → t.standing ≡ st → on_path t ≡ true
    go Live e = ap stands_on_path e
    go Retired e = ap stands_on_path e
    go Squashed e = let no : false ≡ true = sym (ap stands_live e) ∙ h in absurd (cc no)

pub gone_fails : (U : UpdateUnit) (n : Note) → IsGone U n → (t : Tenant) → at U.tenants n.at ≡ Some t → is_live t ≡ false
gone_fails U n g t is = ap (λ (z : Tenant). stands_live z.standing) (sym (same_Some g.tenant t (sym g.is ∙ is))) ∙ ap stands_live g.fact

count_all : (xs : List Note) → count (λ n. true) xs ≡ length xs
count_all [] = refl
count_all (x ∷ xs) = ap suc (count_all xs)

-- those that have not left are among the last ones
pub live_fewer : (P : Program) (U : UpdateUnit) (A B : List Note) → trail P U.tenants ≡ A ++ B → AllByRecursion (IsGone U) A → how_many is_live U.tenants ≤ length B
live_fewer P U A B e a =
    subst (λ z. how_many is_live U.tenants ≤ z) (count_all B)
    (at_most P is_live (λ n. true) live_on_path U.tenants A B e (all_map (IsGone U) (FailsAt P is_live (λ n. true) U.tenants) (gone_fails U) A a) (says B))
  where
    says : (xs : List Note) → AllByRecursion (SaysAt P is_live (λ n. true) U.tenants) xs
    says [] = tt
    says (x ∷ xs) = ((λ t is h. refl), says xs)

-- the free word of a station whose last tenant is on the path
pub left_there : (t : Tenant) (k : ℕ) (w : StationWord) → w ≡ word_by k t.standing t.tag t.fate t.made → w.state ≡ IsFree → on_path t ≡ true → (left : ℕ) → HasValue w.value left → HasLeft left t
left_there t k w e free on left v = go t.standing refl
  where
    live_state : (tag : ℕ) (f : Rattle.inorder.specs.Tenants.Fate) → (Rattle.inorder.specs.StationWords.live_word tag f).state ≢ IsFree
    live_state tag Rattle.inorder.specs.Tenants.Open = λ x. cc x
    live_state tag (Rattle.inorder.specs.Tenants.Busy by) = λ x. cc x
    live_state tag (Rattle.inorder.specs.Tenants.Addr a) = λ x. cc x
    live_state tag (Rattle.inorder.specs.Tenants.Done a) = λ x. cc x
    live_state tag (Rattle.inorder.specs.Tenants.Miss a) = λ x. cc x
    live_state tag (Rattle.inorder.specs.Tenants.Guessed c) = λ x. cc x
    live_state tag (Rattle.inorder.specs.Tenants.Stopped c) = λ x. cc x

    go : (st : Standing) → t.standing ≡ st → HasLeft left t
    go Live f = absurd (live_state t.tag t.fate (ap (λ s. (word_by k s t.tag t.fate t.made).state) (sym f) ∙ (ap (λ (z : StationWord). z.state) (sym e) ∙ free)))
    go Squashed f = absurd (true≢false (sym on ∙ ap stands_on_path f))
    go Retired f =
        let value : w.value ≡ left_value t.fate t.made = ap (λ (z : StationWord). z.value) (e ∙ ap (λ s. word_by k s t.tag t.fate t.made) f) in
        record { retired = f; value = subst (λ z. HasValue z left) value v }

-- the tenant that is the last of its station
pub last_now : (U : UpdateUnit) (p s : ℕ) (t : Tenant) → at U.tenants p ≡ Some t → is_old U p ≡ false → t.station ≡ s → IsLastAt U p s → last_of (recent U) s ≡ Some t
last_now U p s t is new place last =
    ap (last_of (recent U)) (sym place)
    ∙ last_of_recent U p t is new (λ q u lt e f. last q u lt e (f ∙ place))

module _ (P : Program) (C : Sizes) (h : List Entry) (legal : IsLegal P C h) where
  abbrev U : UpdateUnit
  U = unit_of P C h

  -- a live tenant at the next station: all are in use
  pub is_full : how_many is_live U.tenants ≤ C.ring → (p : ℕ) (t : Tenant) → at U.tenants p ≡ Some t → t.standing ≡ Live → t.station ≡ next_station C (recent U) → IsFull C U
  is_full room p t is live place =
      let st = stands_right P C h legal in
      let n = new_tenant P C U 0 0 (Known 0) (Known 0) in
      let few = fewer_newest is_live U.fresh U.tenants in
      let there = recent_at U p t is (live_is_recent P C h legal p t is live) in
      let settled = settling_newest U.fresh U.tenants (settling P U.tenants (unit_sound P C h legal)) in
      ⊎_elim
      (λ less. absurd (all_at (IsElsewhere n) (recent U) (all_elsewhere P C n (recent U) [] (recent U) refl refl (omega (arith, few, less)) settled st.placed) there.r t there.is live place))
      (λ (most : C.ring ≤ how_many is_live U.tenants). omega (arith, most, room))
      (cases_lt (how_many is_live U.tenants) C.ring)

  -- the next station's tag, where that is free
  pub next_tag_is : (seen : Seen StationState) → SeesStation P C h (next_station C (recent U)) seen → seen.state ≡ Free → next_tag C (recent U) ≡ seen.tag
  next_tag_is seen sees free = sym (sees.tag_is ∙ go (last_of (recent U) (next_station C (recent U))) (free_is _ (sym sees.state_is ∙ ap state_code free)))
    where
      live_state : (tag : ℕ) (f : Rattle.inorder.specs.Tenants.Fate) → (Rattle.inorder.specs.StationWords.live_word tag f).state ≢ IsFree
      live_state tag Rattle.inorder.specs.Tenants.Open = λ x. cc x
      live_state tag (Rattle.inorder.specs.Tenants.Busy by) = λ x. cc x
      live_state tag (Rattle.inorder.specs.Tenants.Addr a) = λ x. cc x
      live_state tag (Rattle.inorder.specs.Tenants.Done a) = λ x. cc x
      live_state tag (Rattle.inorder.specs.Tenants.Miss a) = λ x. cc x
      live_state tag (Rattle.inorder.specs.Tenants.Guessed c) = λ x. cc x
      live_state tag (Rattle.inorder.specs.Tenants.Stopped c) = λ x. cc x

      by : (k : ℕ) (t : Tenant) (st : Standing) → (word_by k st t.tag t.fate t.made).state ≡ IsFree → (word_by k st t.tag t.fate t.made).tag ≡ k
      by k t Live e = absurd (live_state t.tag t.fate e)
      by k t Retired e = refl
      by k t Squashed e = refl

      go : (o : Option Tenant) → (station_word_of (next_tag C (recent U)) o).state ≡ IsFree → (station_word_of (next_tag C (recent U)) o).tag ≡ next_tag C (recent U)
      go None e = refl
      go (Some t) e = by (next_tag C (recent U)) t t.standing e

  module _ (records : List Record) (base : Base) (k : FrontKnows P C U records base) where
    -- no more are live than there are stations
    pub live_room : how_many is_live U.tenants ≤ C.ring
    live_room = let few = live_fewer P U k.gone k.notes k.path k.retired in omega (arith, few, k.room)

    -- where all stations have had a tenant and the next one is free, the oldest has left
    pub oldest_left : (seen : Seen StationState) → SeesStation P C h (next_station C (recent U)) seen →
        seen.state ≡ Free → (n : Note) (ns : List Note) → k.notes ≡ n ∷ ns → C.ring ≤ length k.notes →
        IsTenant U n.at n.what.station n.what.tag (HasLeft seen.value)
    oldest_left seen sees free n ns e full =
        let noted : IsNoted P U.tenants n = (subst (AllByRecursion (IsNoted P U.tenants)) e (notes_noted P C h legal records base (IsFolded U (rested_at base)) k)).0 in
        let newest : IsNewest U n = (subst (AllByRecursion (IsNewest U)) e k.newest).0 in
        let whole : C.ring ≡ length (n ∷ ns) = omega (arith, full, k.room, ap (λ z. length z) e) in
        let untold = (subst (AllByRecursion (λ n. rested_at base ≤ n.at)) e k.untold).0 in
        let new = kept_new P C U records base (IsFolded U (rested_at base)) k n.at untold in
        let next = oldest_place P C U records base (IsFolded U (rested_at base)) k (stands_right P C h legal) n ns e whole in
        let place : noted.tenant.station ≡ next_station C (recent U) = ap (λ (z : Record). z.station) noted.what ∙ next in
        let last : last_of (recent U) (next_station C (recent U)) ≡ Some noted.tenant = last_now U n.at (next_station C (recent U)) noted.tenant noted.is new place
        (λ q u lt is same. newest q u lt is (same ∙ sym next)) in
        let word : station_word C (recent U) (next_station C (recent U)) ≡ word_by (next_tag C (recent U)) noted.tenant.standing noted.tenant.tag noted.tenant.fate noted.tenant.made = ap
        (station_word_of (next_tag C (recent U))) last in
        record {
          tenant = noted.tenant;
          is = noted.is;
          new = new;
          station_is = ap (λ (z : Record). z.station) noted.what;
          tag_is = ap (λ (z : Record). z.tag) noted.what;
          fact = left_there noted.tenant (next_tag C (recent U)) (station_word C (recent U) (next_station C (recent U))) word (free_is _ (sym sees.state_is ∙ ap state_code free)) noted.on seen.value
              sees.value_is;
        }

    -- a free next station: not all are in use
    pub not_full : 0 < C.ring → (seen : Seen StationState) → SeesStation P C h (next_station C (recent U)) seen → seen.state ≡ Free → how_many is_live U.tenants < C.ring
    not_full pos seen sees free = ⊎_elim
        (λ few. let l = live_fewer P U k.gone k.notes k.path k.retired in omega (arith, l, few))
        (λ full. go k.notes refl full)
        (cases_lt (length k.notes) C.ring)
      where
        go : (xs : List Note) → k.notes ≡ xs → C.ring ≤ length k.notes → how_many is_live U.tenants < C.ring
        go [] e full = absurd (omega (arith, full, pos, ap (λ z. length z) e))
        go (n ∷ ns) e full =
            let left = oldest_left seen sees free n ns e full in
            let gone : IsGone U n = record { tenant = left.tenant; is = left.is; fact = left.fact.retired } in
            let path : trail P U.tenants ≡ (k.gone ++ n ∷ []) ++ ns = k.path ∙ (ap (λ z. k.gone ++ z) e ∙ sym (Rattle.std.proofs.Common.append_assoc k.gone (n ∷ []) ns)) in
            let l = live_fewer P U (k.gone ++ n ∷ []) ns path (all_both (IsGone U) k.gone (n ∷ []) k.retired (gone, tt)) in
            omega (arith, l, k.room, ap (λ z. length z) e)
