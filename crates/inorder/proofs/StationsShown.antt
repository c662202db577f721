-- What the stations show, and how the steps move it.
use Rattle.std.proofs.Common.{◌≡◌, ⊎_elim, ◌≢◌, ℕ, suc, ◌+◌, ◌<◌, Bool, true, false, cond, eqb, List, [], ◌∷◌, ◌++◌, length, Option, Some, None, refl, sym, ap, ◌∙◌, subst, arith, true≢false, eqb-true}
use Rattle.std.proofs.Common.{ne_eqb}
use Rattle.std.specs.List.{AllByRecursion}
use Rattle.instructions.specs.Programs.{Program}
use Rattle.inorder.specs.declared.history.Act.{Act}
use Rattle.inorder.specs.declared.history.Act.TheVariants.{Claim, Deliver, Finish, Link, Load, Mend, Retire, Speculate, Squash}
use Rattle.inorder.specs.declared.history.Source.TheVariants.{First, Second}
use Rattle.inorder.specs.declared.history.Step.TheVariants.{Let, On}
use Rattle.inorder.specs.declared.history.Supply.{Supply}
use Rattle.inorder.specs.Legal.{Allowed, May, Taken, applied, changed, reached}
use Rattle.inorder.specs.StationWords.{ChangesStation, HasFate, IsFree, KeepsStations, WordsMove, NamedBy, StationsFollow, last_of, live_word, station_word, station_word_of, word_by}
use Rattle.inorder.specs.Steps.{new_tenant}
use Rattle.inorder.specs.Tenants.{Addr, Busy, Done, Fate, Guessed, IsNotLive, Live, Miss, Open, Retired, Squashed, Standing, Stopped, Tenant, is_live}
use Rattle.inorder.specs.Unit.{newest_of, Sizes, UpdateUnit, at, how_many, next_station, next_tag, older, recent, tag_after, younger}
use Rattle.inorder.proofs.Basics.{eqb_self, split_at}
use Rattle.inorder.proofs.Grows.{all_mid}
use Rattle.inorder.proofs.Kept.{parts, sound}
use Rattle.inorder.proofs.Sound.{IsSound}
use Rattle.inorder.proofs.Stations.{OldGone, fewer_newest, old_gone, settling, settling_newest, AreApart, IsElsewhere, Stands, all_elsewhere, stands}
use Rattle.inorder.proofs.Tags.{AreTagged, IsNewPlace, IsOldPlace, cut, live_new, passed, count_same, same_place, tagged}
use Rattle.inorder.proofs.Speculating.{speculates_live}

-- The last tenant of a station

not_same : (a b : ℕ) → a ≢ b → eqb a b ≡ false
not_same a b ne = ne_eqb a b ne

-- a live tenant is the last of its station, whatever it becomes
pub last_live : (t u : Tenant) (ts ys : List Tenant) → t.standing ≡ Live → u.station ≡ t.station →
    AreApart (ys ++ t ∷ ts) → last_of (ys ++ u ∷ ts) t.station ≡ Some u
last_live t u ts [] live e h =
    ap (λ b. cond b (Some u) (last_of ts t.station)) (ap (λ q. eqb q t.station) e ∙ eqb_self t.station)
last_live t u ts (y ∷ ys) live e h =
    let ne : y.station ≢ t.station = λ same. all_mid (IsElsewhere y) t ts ys h.0 live (sym same) in
    ap (λ b. cond b (Some y) (last_of (ys ++ u ∷ ts) t.station)) (not_same y.station t.station ne)
    ∙ last_live t u ts ys live e h.1

last_other : (t u : Tenant) (ts ys : List Tenant) (s : ℕ) → t.station ≢ s → u.station ≡ t.station →
    last_of (ys ++ u ∷ ts) s ≡ last_of (ys ++ t ∷ ts) s
last_other t u ts [] s ne e =
    ap (λ b. cond b (Some u) (last_of ts s)) (ap (λ q. eqb q s) e ∙ not_same t.station s ne)
    ∙ sym (ap (λ b. cond b (Some t) (last_of ts s)) (not_same t.station s ne))
last_other t u ts (y ∷ ys) s ne e = ap (cond (eqb y.station s) (Some y)) (last_other t u ts ys s ne e)

-- the tag after a live tenant
tag_live : (C : Sizes) (t u : Tenant) (ts ys : List Tenant) → t.standing ≡ Live → u.station ≡ t.station →
    AreApart (ys ++ t ∷ ts) → AreTagged C (ys ++ t ∷ ts) → tag_after C (ys ++ u ∷ ts) t.station ≡ suc t.tag
tag_live C t u ts [] live e a h =
    let c = ap (λ b. cond b (suc (how_many (λ x. eqb x.station t.station) ts))
    (how_many (λ x. eqb x.station t.station) ts)) (ap (λ q. eqb q t.station) e ∙ eqb_self t.station) in
    let g = h.0 in
    omega arith
tag_live C t u ts (y ∷ ys) live e a h =
    let ne : y.station ≢ t.station = λ same. all_mid (IsElsewhere y) t ts ys a.0 live (sym same) in
    ap (λ b. C.first_tag + cond b (suc (how_many (λ x. eqb x.station t.station) (ys ++ u ∷ ts)))
    (how_many (λ x. eqb x.station t.station) (ys ++ u ∷ ts))) (not_same y.station t.station ne)
    ∙ tag_live C t u ts ys live e a.1 h.1

-- What a station shows where a live tenant changes
shown_live : (C : Sizes) (t u : Tenant) (ts ys : List Tenant) (s : ℕ) → t.standing ≡ Live →
    u.station ≡ t.station → AreApart (ys ++ t ∷ ts) → AreTagged C (ys ++ t ∷ ts) →
    station_word C (ys ++ u ∷ ts) s ≡ cond (eqb t.station s) (station_word_of (suc t.tag) (Some u)) (station_word C
    (ys ++ t ∷ ts) s)
shown_live C t u ts ys s live e a h = go (eqb t.station s) refl
  where
    go : (b : Bool) → eqb t.station s ≡ b →
        station_word C (ys ++ u ∷ ts) s ≡ cond b (station_word_of (suc t.tag) (Some u)) (station_word C
        (ys ++ t ∷ ts) s)
    go true q =
        let same : t.station ≡ s = eqb-true t.station s q in
        ap (station_word C (ys ++ u ∷ ts)) (sym same)
        ∙ ap (λ n. station_word_of n (last_of (ys ++ u ∷ ts) t.station)) (tag_live C t u ts ys live e a h)
        ∙ ap (station_word_of (suc t.tag)) (last_live t u ts ys live e a)
    go false q =
        let ne : t.station ≢ s = λ same. true≢false (sym (ap (eqb t.station) (sym same) ∙ eqb_self t.station)
        ∙ q) in
        ap (λ n. station_word_of (C.first_tag + n) (last_of (ys ++ u ∷ ts) s)) (count_same t u ts ys s e)
        ∙ ap (station_word_of (tag_after C (ys ++ t ∷ ts) s)) (last_other t u ts ys s ne e)

shown_same : (C : Sizes) (t u : Tenant) (ts ys : List Tenant) (s : ℕ) → u.station ≡ t.station →
    ((n : ℕ) → station_word_of n (Some u) ≡ station_word_of n (Some t)) →
    station_word C (ys ++ u ∷ ts) s ≡ station_word C (ys ++ t ∷ ts) s
shown_same C t u ts ys s e f =
    ap (λ n. station_word_of (C.first_tag + n) (last_of (ys ++ u ∷ ts) s)) (count_same t u ts ys s e)
    ∙ last ys (tag_after C (ys ++ t ∷ ts) s)
  where
    here : (b : Bool) (n : ℕ) →
        station_word_of n (cond b (Some u) (last_of ts s)) ≡ station_word_of n (cond b (Some t) (last_of ts s))
    here true n = f n
    here false n = refl

    one : (b : Bool) (y : Tenant) (n : ℕ) (q r : Option Tenant) → station_word_of n q ≡ station_word_of n r →
        station_word_of n (cond b (Some y) q) ≡ station_word_of n (cond b (Some y) r)
    one true y n q r g = refl
    one false y n q r g = g

    last : (ys : List Tenant) (n : ℕ) →
        station_word_of n (last_of (ys ++ u ∷ ts) s) ≡ station_word_of n (last_of (ys ++ t ∷ ts) s)
    last [] n = ap (λ q. station_word_of n (cond (eqb q s) (Some u) (last_of ts s))) e ∙ here (eqb t.station s) n
    last (y ∷ ys) n =
        one (eqb y.station s) y n (last_of (ys ++ u ∷ ts) s) (last_of (ys ++ t ∷ ts) s) (last ys n)

-- The clauses

-- a live tenant is what its station shows
is_shown : (C : Sizes) (ts : List Tenant) → Stands C ts → (p : ℕ) (t : Tenant) → at ts p ≡ Some t →
    t.standing ≡ Live → station_word C ts t.station ≡ live_word t.tag t.fate
is_shown C ts s p t e live =
    let split = split_at ts p t e in
    let last = last_live t t (older ts p) (younger ts p) live refl (subst AreApart split s.apart) in
    ap (λ W. station_word_of (tag_after C ts t.station) (last_of W t.station)) split
    ∙ ap (station_word_of (tag_after C ts t.station)) last
    ∙ ap (λ st. word_by (tag_after C ts t.station) st t.tag t.fate t.made) live

-- the last tenant of a station is at a position, and nobody after it has its station
record LastAt (ts : List Tenant) (s : ℕ) (t : Tenant) : Type 0 where
  pub p : ℕ
  pub is : at ts p ≡ Some t
  pub station : t.station ≡ s
  pub alone : AllByRecursion (λ u. u.station ≢ s) (younger ts p)

below : (ts : List Tenant) (p : ℕ) (t : Tenant) → at ts p ≡ Some t → p < length ts
below [] p t e = absurd (cc)
below (u ∷ us) p t e = go (eqb p (length us)) refl e (below us p t)
  where
    go : (b : Bool) → eqb p (length us) ≡ b → cond b (Some u) (at us p) ≡ Some t →
        (at us p ≡ Some t → p < length us) → p < suc (length us)
    go true h e rest = let s = eqb-true p (length us) h in omega (arith, s)
    go false h e rest = let s = rest e in omega (arith, s)

last_at : (ts : List Tenant) (s : ℕ) (t : Tenant) → last_of ts s ≡ Some t → LastAt ts s t
last_at [] s t e = absurd (cc)
last_at (u ∷ us) s t e = go (eqb u.station s) refl e (last_at us s t)
  where
    go : (b : Bool) → eqb u.station s ≡ b → cond b (Some u) (last_of us s) ≡ Some t →
        (last_of us s ≡ Some t → LastAt us s t) → LastAt (u ∷ us) s t
    go true h e rest =
        let same : u ≡ t = cc in
        let here = eqb_self (length us) in
        record {
          p = length us;
          is = ap (λ b. cond b (Some u) (at us (length us))) here ∙ e;
          station = ap (λ v. v.station) (sym same) ∙ eqb-true u.station s h;
          alone =
              subst (λ b. AllByRecursion (λ v. v.station ≢ s) (cond b [] (u ∷ younger us (length us))))
              (sym here) tt;
        }
    go false h e rest =
        let r = rest e in
        let n = below us r.p t r.is in
        let off : eqb r.p (length us) ≡ false = ne_eqb r.p (length us) (λ q. omega (arith, n, q)) in
        let apart : u.station ≢ s = λ q. true≢false (sym (ap (λ x. eqb x s) q ∙ eqb_self s) ∙ h) in
        record {
          p = r.p;
          is = ap (λ b. cond b (Some u) (at us r.p)) off ∙ r.is;
          station = r.station;
          alone =
              subst (λ b. AllByRecursion (λ v. v.station ≢ s) (cond b [] (u ∷ younger us r.p))) (sym off)
              (apart, r.alone);
        }

-- the fate that a live word shows
live_fate : (tag : ℕ) (f : Fate) → HasFate (live_word tag f).state (live_word tag f).value f
live_fate tag Open = refl
live_fate tag (Busy by) = tt
live_fate tag (Guessed v) = tt
live_fate tag (Addr a) = (a, refl, refl)
live_fate tag (Done v) = (v, refl, refl)
live_fate tag (Miss x) = (x, refl, refl)
live_fate tag (Stopped c) = (c, refl, refl)

live_tag : (tag : ℕ) (f : Fate) → (live_word tag f).tag ≡ tag
live_tag tag Open = refl
live_tag tag (Busy by) = refl
live_tag tag (Addr a) = refl
live_tag tag (Done v) = refl
live_tag tag (Guessed v) = refl
live_tag tag (Miss x) = refl
live_tag tag (Stopped c) = refl

-- a station that is not free shows a live tenant
named : (C : Sizes) (ts : List Tenant) → Stands C ts → (s : ℕ) → (station_word C ts s).state ≢ IsFree →
    NamedBy C ts s
named C ts st s busy = go (last_of ts s) refl
  where
    Goal : Type 0
    Goal = NamedBy C ts s

    shows : (o : Option Tenant) → last_of ts s ≡ o → (station_word_of (tag_after C ts s) o).state ≢ IsFree
    shows o e free = busy (ap (λ q. (station_word_of (tag_after C ts s) q).state) e ∙ free)

    is_live : (t : Tenant) (x : Standing) → t.standing ≡ x →
        (word_by (tag_after C ts s) x t.tag t.fate t.made).state ≢ IsFree → t.standing ≡ Live
    is_live t Live e h = e
    is_live t Retired e h = absurd (h refl)
    is_live t Squashed e h = absurd (h refl)

    go : (o : Option Tenant) → last_of ts s ≡ o → Goal
    go None e = absurd (shows None e refl)
    go (Some t) e =
        let at_end = last_at ts s t e in
        let live = is_live t t.standing refl (shows (Some t) e) in
        let word : station_word C ts s ≡ live_word t.tag t.fate =
        ap (station_word C ts) (sym at_end.station) ∙ is_shown C ts st at_end.p t at_end.is live
        in
        record {
          p = at_end.p;
          tenant = t;
          is = at_end.is;
          live = live;
          station = at_end.station;
          tag = sym (ap (λ w. w.tag) word ∙ live_tag t.tag t.fate);
          fate = subst (λ w. HasFate w.state w.value t.fate) (sym word) (live_fate t.tag t.fate);
          last = at_end.alone;
        }

-- nobody alive has the station, so that it is free
free_of : (n : Tenant) (ts : List Tenant) (k : ℕ) → AllByRecursion (IsElsewhere n) ts →
    ((station_word_of k (last_of ts n.station)).state ≡ IsFree) × ((station_word_of k (last_of ts n.station)).tag ≡ k)
free_of n [] k h = (refl, refl)
free_of n (t ∷ ts) k h = go (eqb t.station n.station) refl (free_of n ts k h.1)
  where
    gone : (st : Standing) → t.standing ≡ st → t.station ≡ n.station →
        ((word_by k t.standing t.tag t.fate t.made).state ≡ IsFree) ×
        ((word_by k t.standing t.tag t.fate t.made).tag ≡ k)
    gone Live e same = absurd (h.0 e same)
    gone Retired e same = (
      ap (λ st. (word_by k st t.tag t.fate t.made).state) e,
      ap (λ st. (word_by k st t.tag t.fate t.made).tag) e,
    )
    gone Squashed e same = (
      ap (λ st. (word_by k st t.tag t.fate t.made).state) e,
      ap (λ st. (word_by k st t.tag t.fate t.made).tag) e,
    )

    Goal : Bool → Type 0
    Goal b =
        ((station_word_of k (cond b (Some t) (last_of ts n.station))).state ≡ IsFree) ×
        ((station_word_of k (cond b (Some t) (last_of ts n.station))).tag ≡ k)

    go : (b : Bool) → eqb t.station n.station ≡ b →
        ((station_word_of k (last_of ts n.station)).state ≡ IsFree) × ((station_word_of k (last_of ts n.station)).tag ≡ k) →
        Goal (eqb t.station n.station)
    go true q more = subst Goal (sym q) (gone t.standing refl (eqb-true t.station n.station q))
    go false q more = subst Goal (sym q) more

-- only a live tenant changes its station
pub acts_live : (P : Program) (by : ℕ) (act : Act) (ys : List Tenant) (t : Tenant) (ts : List Tenant) →
    ChangesStation act → May P by act ys t ts → t.standing ≡ Live
acts_live P by (Link k) ys t ts c m = absurd c
acts_live P by (Deliver k) ys t ts c m = absurd c
acts_live P by Claim ys t ts c m = m.live
acts_live P by Finish ys t ts c m = m.live
acts_live P by Load ys t ts c m = m.live
acts_live P by (Retire n) ys t ts c m = m.live
acts_live P by Squash ys t ts c m = m.live
acts_live P by (Speculate s) ys t ts c m = speculates_live P s ys t ts m
acts_live P by Mend ys t ts c m = m.live

module _ (P : Program) (C : Sizes) (U : UpdateUnit) (by : ℕ) (sound_U : IsSound P U.tenants) (st : Stands C
    (recent U)) (tags : AreTagged C (recent U)) (gone : OldGone U) where
  before_let : (index predicted : ℕ) (first second : Supply) →
      Allowed P C U by (Let index predicted first second) →
      ((station_word C (recent U) (next_station C (recent U))).state ≡ IsFree) ×
      ((station_word C (recent U) (next_station C (recent U))).tag ≡ next_tag C (recent U))
  before_let index predicted first second a =
      let n = new_tenant P C U index predicted first second in
      free_of n (recent U) (next_tag C (recent U)) (all_elsewhere P C n (recent U) []
      (recent U) refl refl (let few = fewer_newest is_live U.fresh U.tenants in omega (arith, few, a.room))
      (settling_newest U.fresh U.tenants (settling P U.tenants sound_U)) st.placed)

  after_let : (index predicted : ℕ) (first second : Supply) (s : ℕ) →
      station_word C (recent (applied P C U by (Let index predicted first second))) s ≡ cond (eqb
      (next_station C (recent U)) s) (live_word (next_tag C (recent U)) Open) (station_word C (recent U) s)
  after_let index predicted first second s = go (eqb (next_station C (recent U)) s) refl
    where
      vs : List Tenant
      vs = recent U

      go : (b : Bool) → eqb (next_station C vs) s ≡ b →
          station_word_of (C.first_tag + cond b (suc (how_many (λ u. eqb u.station s) vs))
          (how_many (λ u. eqb u.station s) vs)) (cond b (Some (new_tenant P C U index predicted first second))
          (last_of vs s)) ≡ cond b (live_word (next_tag C vs) Open) (station_word C vs s)
      go true e = refl
      go false e = refl

  -- an act on a live tenant
  at_station : (p : ℕ) (act : Act) (t : Tenant) (s : ℕ) → t.standing ≡ Live → at U.tenants p ≡ Some t →
      station_word C (recent (applied P C U by (On p act))) s ≡ cond (eqb t.station s) (station_word_of (suc t.tag)
      (Some (changed P by act t (older U.tenants p)))) (station_word C (recent U) s)
  at_station p act t s live e =
      let ts = U.tenants in
      let u = changed P by act t (older ts p) in
      let split = split_at ts p t e in
      let new = live_new U.fresh (younger ts p) (older ts p) t (subst (λ z. AllByRecursion IsNotLive (passed U.fresh z)) split gone) live in
      let now = ap (newest_of U.fresh) split ∙ new.is t in
      ap (λ W. station_word C (newest_of U.fresh W) s) (parts P ts by p act t e)
      ∙ ap (λ W. station_word C W s) (new.is u)
      ∙ shown_live C t u new.zs (younger ts p) s live (same_place P by act t (older ts p)).0
      (subst AreApart now st.apart) (subst (AreTagged C) now tags)
      ∙ ap (λ W. cond (eqb t.station s) (station_word_of (suc t.tag) (Some u)) (station_word C W s)) (sym now)

  after_act : (p : ℕ) (act : Act) (t : Tenant) (s : ℕ) → ChangesStation act → Allowed P C U by (On p act) →
      at U.tenants p ≡ Some t →
      station_word C (recent (applied P C U by (On p act))) s ≡ cond (eqb t.station s) (station_word_of (suc t.tag)
      (Some (changed P by act t (older U.tenants p)))) (station_word C (recent U) s)
  after_act p act t s c a e =
      let same : a.tenant ≡ t = let f = a.is in cc (sym f ∙ e) in
      let live : t.standing ≡ Live = ap (λ x. x.standing) (sym same)
      ∙ acts_live P by act (younger U.tenants p) a.tenant (older U.tenants p) c a.may in
      at_station p act t s live e

  same_word : (act : Act) (t : Tenant) (ts : List Tenant) (n : ℕ) → KeepsStations act →
      station_word_of n (Some (changed P by act t ts)) ≡ station_word_of n (Some t)
  same_word (Link First) t ts n k = refl
  same_word (Link Second) t ts n k = refl
  same_word (Deliver First) t ts n k = refl
  same_word (Deliver Second) t ts n k = refl
  same_word Claim t ts n k = absurd k
  same_word Finish t ts n k = absurd k
  same_word Load t ts n k = absurd k
  same_word (Retire m) t ts n k = absurd k
  same_word Squash t ts n k = absurd k
  same_word (Speculate s) t ts n k = absurd k
  same_word Mend t ts n k = absurd k

  station_kept : (p : ℕ) (act : Act) (s : ℕ) → KeepsStations act → Allowed P C U by (On p act) →
      station_word C (recent (applied P C U by (On p act))) s ≡ station_word C (recent U) s
  station_kept p act s k a =
      let ts = U.tenants in
      let t = a.tenant in
      let t' = changed P by act t (older ts p) in
      ap (λ W. station_word C (newest_of U.fresh W) s) (parts P ts by p act t a.is)
      ∙ ⊎_elim
      (λ (old : IsOldPlace U.fresh (younger ts p) (older ts p)). ap (λ W. station_word C W s) (old.same t' t))
      (λ (new : IsNewPlace U.fresh (younger ts p) (older ts p)).
      ap (λ W. station_word C W s) (new.is t')
      ∙ shown_same C t t' new.zs (younger ts p) s (same_place P by act t (older ts p)).0 (λ n. same_word act t (older ts p) n k)
      ∙ ap (λ W. station_word C W s) (sym (new.is t)))
      (cut U.fresh (younger ts p) (older ts p))
      ∙ ap (λ W. station_word C (newest_of U.fresh W) s) (sym (split_at ts p t a.is))

  moves : WordsMove P C U by
  moves =
      record {
        before_let = before_let;
        after_let = λ index predicted first second s a. after_let index predicted first second s;
        after_act = after_act;
        kept = station_kept;
      }

pub stations_follow : (P : Program) (C : Sizes) (history : List Taken) (by : ℕ) → StationsFollow P C history by
stations_follow P C history by =
    record {
      shows =
          λ a. let st = stands P C history a in
          record {
            live = is_shown C (recent (reached P C history)) st;
            names = named C (recent (reached P C history)) st;
          };
      moves =
          λ a. moves P C (reached P C history) by (sound P C history a) (stands P C history a)
          (tagged P C history a) (old_gone P C history a);
    }
