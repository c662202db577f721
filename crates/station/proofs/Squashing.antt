-- The steps of squashing the youngest live tenant.
use Rattle.std.proofs.Common.{◌≡◌, ℕ, suc, ◌+◌, ◌-◌, ◌%◌, ◌<◌, false, cond, List, [], ◌∷◌, ◌++◌, map, None, refl, sym, ap, ◌∙◌, subst, inl, ⊎_elim, arith}
use mathlib.Core.Logic.{dite}
use native.Mathlib.Decide.{ℕ_discrete}
use Rattle.std.proofs.Math.Nat.{add-mod_left, mod-add-mod}
use Rattle.std.proofs.lemmas.Bool.{cases_lt}
use Rattle.std.specs.List.{AllByRecursion}
use Rattle.instructions.specs.Programs.{Program}
use Rattle.inorder.specs.declared.history.Act.TheVariants.{Squash}
use Rattle.inorder.specs.declared.history.Entry.{Entry}
use Rattle.inorder.specs.declared.history.Event.{Event}
use Rattle.inorder.specs.declared.history.Event.TheVariants.{Does}
use Rattle.inorder.specs.declared.history.Step.TheVariants.{On}
use Rattle.inorder.specs.Callers.{CanSquash}
use Rattle.inorder.specs.History.{IsLegal, entry, front, own, taken_of, unit_of}
use Rattle.inorder.specs.OneHistory.{Adds}
use Rattle.inorder.specs.Replies.{last_tag}
use Rattle.inorder.specs.StationWords.{IsFree, station_word}
use Rattle.inorder.specs.Tenants.{IsNotLive, Live, Retired, Squashed, Standing, Tenant, on_path, stands_on_path}
use Rattle.inorder.specs.Legal.{applied}
use Rattle.inorder.specs.Steps.{squashed}
use Rattle.inorder.specs.Unit.{how_many, next_station, older, recent, Sizes, UpdateUnit, younger}
use Rattle.inorder.proofs.Basics.{split_at}
use Rattle.inorder.proofs.Ends.{may_squash, squash_stays}
use Rattle.inorder.proofs.Grows.{all_mid}
use Rattle.inorder.proofs.Histories.{adds_on, allowed_steps, unit_sound, none_renewed}
use Rattle.inorder.proofs.Sound.{IsSettled, IsSound, SettledBy}
use Rattle.inorder.proofs.Stations.{is_ring, stands}
use Rattle.ruu_words.specs.declared.place.Place.TheVariants.{Station}
use Rattle.ruu_words.specs.declared.rule.Draft.{Draft}
use Rattle.ruu_words.specs.declared.rule.Draft.TheVariants.{Nothing}
use Rattle.ruu_words.specs.declared.rule.View.{View}
use Rattle.ruu_words.specs.Content.{IsStation}
use Rattle.ruu_words.specs.Fields.{tag_of}
use Rattle.ruu_words.specs.Kinds.{IsNamed}
use Rattle.ruu_words.specs.Telling.{Grows}
use Rattle.ruu_words.proofs.Building.{changes}
use Rattle.ruu_words.specs.Plans.{Plan, Plans}
use Rattle.ruu_words.proofs.StationWords.{its_word, live_state, one_at}
use Rattle.ruu_words.proofs.Stays.{front_stays, named_stays, tag_small}
use Rattle.station.specs.Recovery.{HasYoungest, SeesWrongPath, Squashes, WasSquashed}
use Rattle.station.proofs.Adding.{adds_these}
use Rattle.inorder.proofs.Recent.{IsRecentAt, live_is_recent, recent_at, recent_change, younger_recent}
use Rattle.station.specs.Steps.{Sees}
use Rattle.station.specs.Calls.{IsLegalCall, TakesStep, TheCall, let_place}
use Rattle.station.proofs.Calls.{Of, of_one, only_looked}

-- The path ends with the youngest live tenant

abbrev pub IsOff : Tenant → Type 0
IsOff y = on_path y ≡ false

count_off : (ys zs : List Tenant) → AllByRecursion IsOff ys → how_many on_path (ys ++ zs) ≡ how_many on_path zs
count_off [] zs h = refl
count_off (y ∷ ys) zs h = ap (λ b. cond b (suc (how_many on_path (ys ++ zs))) (how_many on_path (ys ++ zs))) h.0 ∙ count_off ys zs h.1

-- after a live tenant none has retired
pub off_path : (P : Program) (t : Tenant) (ts ys : List Tenant) → t.standing ≡ Live → AllByRecursion IsNotLive ys → IsSound P (ys ++ t ∷ ts) → AllByRecursion IsOff ys
off_path P t ts [] live last s = tt
off_path P t ts (y ∷ ys) live last s = (go y.standing refl, off_path P t ts ys live last.1 s.1)
  where
    go : (st : Standing) → y.standing ≡ st → on_path y ≡ false
    go Live e = absurd (last.0 e)
    go Squashed e = ap stands_on_path e
    go Retired e = absurd (subst (λ x. SettledBy x t.fate) live (all_mid IsSettled t ts ys ((s.0.placed (ap stands_on_path e)).settled e)))

module _ (P : Program) (C : Sizes) where
  abbrev U : List Entry → UpdateUnit
  U h = unit_of P C h

  younger_off : (h : List Entry) → IsLegal P C h → (p : ℕ) → (c : CanSquash (U h) p) → AllByRecursion IsOff (younger (U h).tenants p)
  younger_off h legal p c =
      let us = (U h).tenants in
      off_path P c.tenant.tenant (older us p) (younger us p) c.tenant.fact (may_squash (U h) p c).youngest (subst (IsSound P) (split_at us p c.tenant.tenant c.tenant.is) (unit_sound P C h legal))

  -- where it is among the recent ones
  abbrev here_in : (h : List Entry) → IsLegal P C h → (p : ℕ) → (c : CanSquash (U h) p) → IsRecentAt (U h) p c.tenant.tenant
  here_in h legal p c = recent_at (U h) p c.tenant.tenant c.tenant.is (live_is_recent P C h legal p c.tenant.tenant c.tenant.is c.tenant.fact)

  -- how many of the path are before it
  abbrev before : (h : List Entry) → IsLegal P C h → (p : ℕ) → (c : CanSquash (U h) p) → ℕ
  before h legal p c = how_many on_path (older (recent (U h)) (here_in h legal p c).r)

  path_counted : (h : List Entry) → (legal : IsLegal P C h) → (p : ℕ) → (c : CanSquash (U h) p) → how_many on_path (recent (U h)) ≡ suc (before h legal p c)
  path_counted h legal p c =
      let us = recent (U h) in
      let t = c.tenant.tenant in
      let x = here_in h legal p c in
      let same : younger us x.r ≡ younger (U h).tenants p = younger_recent (U h) p t x in
      ap (how_many on_path) (split_at us x.r t x.is)
      ∙ (count_off (younger us x.r) (t ∷ older us x.r) (subst (AllByRecursion IsOff) (sym same) (younger_off h legal p c))
      ∙ ap (λ b. cond b (suc (how_many on_path (older us x.r))) (how_many on_path (older us x.r))) (ap stands_on_path c.tenant.fact))

  its_place : (h : List Entry) → (legal : IsLegal P C h) → (p : ℕ) → (c : CanSquash (U h) p) → c.tenant.tenant.station ≡ before h legal p c % C.ring
  its_place h legal p c =
      let x = here_in h legal p c in
      (is_ring C (recent (U h)) (stands P C (taken_of h) (allowed_steps P C h legal))).place x.r c.tenant.tenant x.is (ap stands_on_path c.tenant.fact)

  one_back : (n r : ℕ) → 0 < r → (suc n % r + r - 1) % r ≡ n % r
  one_back n r pos =
      let x : ℕ = suc n % r in
      let a : x + r - 1 ≡ x + (r - 1) = omega arith in
      let b : suc n + (r - 1) ≡ r + n = omega arith in
      ap (λ z. z % r) a ∙ (mod-add-mod (suc n) r (r - 1) ∙ (ap (λ z. z % r) b ∙ add-mod_left r n))

  -- so it is the station before the next one
  tail_is : (h : List Entry) → IsLegal P C h → (p next ring : ℕ) → (c : CanSquash (U h) p) → ring ≡ C.ring → next < ring → next ≡ next_station C (recent (U h)) →
      c.tenant.tenant.station ≡ (next + ring - 1) % ring
  tail_is h legal p next ring c ring_is small e =
      let n : ℕ = before h legal p c in
      let at_end : next ≡ suc n % ring = e ∙ (λ i. path_counted h legal p c i % sym ring_is i) in
      its_place h legal p c ∙ (ap (λ z. n % z) (sym ring_is) ∙ (sym (one_back n ring (omega arith)) ∙ ap (λ z. (z + ring - 1) % ring) (sym at_end)))

  pub youngest_in : (h : List Entry) → IsLegal P C h → (next ring : ℕ) → ring ≡ C.ring → next < ring → next ≡ next_station C (recent (U h)) → (m : SeesWrongPath P C h) →
      HasYoungest P C h ((next + ring - 1) % ring) m.can.tenant.tenant.tag
  youngest_in h legal next ring ring_is small e m = record {
    p = m.p;
    named = record {
      tenant = m.can.tenant.tenant;
      is = m.can.tenant.is;
      new = live_is_recent P C h legal m.p m.can.tenant.tenant m.can.tenant.is m.can.tenant.fact;
      station_is = tail_is h legal m.p next ring m.can ring_is small e;
      tag_is = refl;
      fact = tt;
    };
    can = m.can;
  }

  -- what the front has seen of it stays
  pub youngest_on : (s g : ℕ) (more seen : List Entry) → IsLegal P C (more ++ seen) → own front more ≡ [] → HasYoungest P C seen s g → HasYoungest P C (more ++ seen) s g
  youngest_on s g more seen legal none y = record {
    p = y.p;
    named = named_stays P C y.p s g more seen legal (none_renewed P C more seen legal none) y.named;
    can = front_stays P C (λ U. CanSquash U y.p) (λ U by st b a ok q. squash_stays P C U by st b a ok y.p q) more seen legal none y.can;
  }

  same_tenant : (h : List Entry) → IsLegal P C h → (s g : ℕ) → (y : HasYoungest P C h s g) → y.named.tenant ≡ y.can.tenant.tenant
  same_tenant h legal s g y = one_at P C h legal y.p y.named.tenant y.can.tenant.tenant y.named.is y.can.tenant.is

  pub youngest_word : (h : List Entry) → IsLegal P C h → (s g n : ℕ) → HasYoungest P C h s g → IsStation (station_word C (recent (U h)) s) n → tag_of n ≡ g
  youngest_word h legal s g n y word =
      let live : y.named.tenant.standing ≡ Live = ap (λ (z : Tenant). z.standing) (same_tenant h legal s g y) ∙ y.can.tenant.fact in
      let w = its_word P C h legal y.p s n y.named.tenant y.named.is y.named.station_is live word in
      (live_state y.named.tenant.tag n y.named.tenant.fate w).0 ∙ y.named.tag_is

  pub squashes_plan : (id : ℕ) (v : View) (s g new : ℕ) → id ≡ front → v.draft ≡ Nothing → HasYoungest P C v.seen s g → IsStation (record { tag = suc g; state = IsFree; value = None }) new →
      Plans P C id v (Station s) (λ _. new) (λ _. Squashes P C s g)
  squashes_plan id v s g new is_front none youngest word between d legal same apart caller mine draft n small content =
      let h : List Entry = between ++ v.seen in
      let now : HasYoungest P C h s g = youngest_on s g between v.seen legal (subst (λ z. own z between ≡ []) is_front apart) youngest in
      let t : Tenant = now.can.tenant.tenant in
      let one : t ≡ now.named.tenant = sym (same_tenant h legal s g now) in
      let at_s : t.station ≡ s = ap (λ (z : Tenant). z.station) one ∙ now.named.station_is in
      let tag : t.tag ≡ g = ap (λ (z : Tenant). z.tag) one ∙ now.named.tag_is in
      let quiet : d ≡ Nothing = sym (mine is_front) ∙ none in
      subst (λ z. Plan P C id h d (Station z) new (Squashes P C s g)) at_s
      (changes P C id h d legal draft now.p Squash t tt (inl quiet) is_front (record { tenant = t; is = now.can.tenant.is; may = may_squash (U h) now.p now.can }) now.can.tenant.is new
      (subst (λ z. IsStation (record { tag = suc z; state = IsFree; value = None }) new) (sym tag) word)
      (Squashes P C s g) (record { youngest = now; added = refl; draft = quiet }))

  -- there is one youngest live tenant
  one_youngest : (V : UpdateUnit) (p q : ℕ) → CanSquash V p → CanSquash V q → p ≡ q
  one_youngest V p q a b = dite (ℕ_discrete p q) (λ e. e) (λ ne. ⊎_elim
      (λ less. absurd (a.youngest q b.tenant.tenant less b.tenant.is b.tenant.fact))
      (λ more. absurd (b.youngest p a.tenant.tenant (omega arith) a.tenant.is a.tenant.fact))
      (cases_lt p q))

  module _ (by s g : ℕ) (v0 v1 w : View) (Kind : List Entry → Draft → List Event → Type 0) (g1 : Grows P C by v0 v1 Kind) (none : g1.events ≡ []) (g2 : Grows P C by v1 w (Squashes P C s g))
      (is : by ≡ front) where
    abbrev mid : List Entry
    mid = g1.between ++ v0.seen

    abbrev last : List Entry
    last = g2.between ++ v1.seen

    seen1 : v1.seen ≡ mid
    seen1 = g1.is ∙ ap (λ es. map (entry by) es ++ mid) none

    seen2 : w.seen ≡ entry by (Does (On g2.kind.youngest.p Squash)) ∷ last
    seen2 = g2.is ∙ ap (λ es. map (entry by) es ++ last) g2.kind.added

    legal1 : IsLegal P C mid
    legal1 = subst (IsLegal P C) seen1 g1.legal

    legal2 : IsLegal P C (entry by (Does (On g2.kind.youngest.p Squash)) ∷ last)
    legal2 = subst (IsLegal P C) seen2 g2.legal

    can_stay : (p : ℕ) (more seen : List Entry) → IsLegal P C (more ++ seen) → own by more ≡ [] → CanSquash (U seen) p → CanSquash (U (more ++ seen)) p
    can_stay p more seen legal apart c = front_stays P C (λ U. CanSquash U p) (λ U by st b a ok q. squash_stays P C U by st b a ok p q) more seen legal (subst (λ i. own i more ≡ []) is apart) c

    -- the look and the write together
    pub squashed_out : SeesWrongPath P C v0.seen → WasSquashed P C by s g v0.seen w.seen
    squashed_out m =
        let p : ℕ = g2.kind.youngest.p in
        let c1 : CanSquash (U v1.seen) m.p = subst (λ h. CanSquash (U h) m.p) (sym seen1) (can_stay m.p g1.between v0.seen legal1 g1.not_own m.can) in
        let c2 : CanSquash (U last) m.p = can_stay m.p g2.between v1.seen legal2.0 g2.not_own c1 in
        let one : p ≡ m.p = one_youngest (U last) p m.p g2.kind.youngest.can c2 in
        let named = named_stays P C p s g (entry by (Does (On p Squash)) ∷ []) last legal2 refl g2.kind.youngest.named in
        let adds = adds_on P C by v0.seen v1.seen w.seen [] (Does (On p Squash) ∷ []) (adds_these P C by v0 v1 Kind [] g1 none)
        (adds_these P C by v1 w (Squashes P C s g) (Does (On p Squash) ∷ []) g2 g2.kind.added) in
        record {
          p = m.p;
          named = subst (λ (z : List Entry × ℕ). IsNamed (U z.0) z.1 s g) (λ i. (sym seen2 i, one i)) named;
          can = m.can;
          adds = subst (λ z. Adds P C by v0.seen w.seen (Does (On z Squash) ∷ [])) one adds;
        }

    -- the next tenant's station is that of the one that left
    pub squashed_next : s ≡ next_station C (recent (U w.seen))
    squashed_next =
        let y = g2.kind.youngest in
        let t = legal2.1.1.tenant in
        let live = legal2.1.1.may.live in
        let ys = younger (U last).tenants y.p in
        let off = younger_off last legal2.0 y.p y.can in
        let among = recent_change P (U last) by y.p Squash t legal2.1.1.is (live_is_recent P C last legal2.0 y.p t legal2.1.1.is live) in
        let now = ap (how_many on_path) among.after ∙ count_off ys (squashed t ∷ among.zs) off in
        let was : how_many on_path (recent (U last)) ≡ suc (how_many on_path among.zs) = ap (how_many on_path) among.before ∙ count_off ys (t ∷ among.zs) off
        ∙ ap (λ b. cond b (suc (how_many on_path among.zs)) (how_many on_path among.zs)) (ap stands_on_path live) in
        let all = path_counted last legal2.0 y.p y.can in
        let counted : how_many on_path (recent (applied P C (U last) by (On y.p Squash))) ≡ before last legal2.0 y.p y.can = omega (arith, now, was, all) in
        let at_s : s ≡ before last legal2.0 y.p y.can % C.ring = sym y.named.station_is ∙ (ap (λ (z : Tenant). z.station) (same_tenant last legal2.0 s g y) ∙ its_place last legal2.0 y.p y.can) in
        at_s ∙ (ap (λ n. n % C.ring) (sym counted) ∙ ap (λ h. next_station C (recent (U h))) (sym seen2))

-- The youngest live tenant, whose station is the one before the next, as a look at that station finds it
module _ {v w : TheCall} {next ring station n : ℕ} (station_is : station ≡ (next + ring - 1) % ring) (legal : IsLegalCall v) (by_is : v.view.by ≡ front)
    (ring_is : ring ≡ v.core.sizes.ring) (small : next < v.core.sizes.ring) (next_is : next ≡ let_place v) (may : SeesWrongPath v.core.program v.core.sizes v.view.seen)
    (took : TakesStep v w (λ P C. Sees P C v.view.by v.view (Station station) n)) (tag : ℕ) (read : tag ≡ tag_of n) where
  pub youngest_read : (tag < last_tag) × HasYoungest w.core.program w.core.sizes w.view.seen station tag
  youngest_read =
      let P = v.core.program in
      let C = v.core.sizes in
      let old : List Entry = v.view.seen in
      let looked = only_looked by_is took in
      let h : List Entry = took.grows.between ++ old in
      let g : ℕ = may.can.tenant.tenant.tag in
      let was : HasYoungest P C old station g = subst (λ s. HasYoungest P C old s g) (sym station_is)
      (youngest_in P C old legal next ring ring_is (subst (λ m. next < m) (sym ring_is) small) next_is may) in
      let now : HasYoungest P C h station g = youngest_on P C station g took.grows.between old looked.legal looked.none was in
      let tag_is : tag ≡ g = read ∙ youngest_word P C h looked.legal station g n now took.grows.kind.content in (
        subst (λ z. z < last_tag) (sym tag_is) (tag_small P C old legal was.p station g was.named),
        subst (λ (z : Of × (List Entry × ℕ)). HasYoungest z.0.0.program z.0.0.sizes z.1.0 station z.1.1) (λ i. (sym (of_one v w took.same) i, (sym looked.is i, sym tag_is i))) now,
      )
