-- The steps of mending a miss.
use Rattle.std.proofs.Common.{◌≡◌, ℕ, suc, ◌%◌, List, [], ◌∷◌, ◌++◌, map, refl, sym, ap, ◌∙◌, subst, inl, ⊎_elim, arith}
use mathlib.Core.Logic.{dite}
use native.Mathlib.Decide.{ℕ_discrete}
use Rattle.std.proofs.lemmas.Bool.{cases_lt}
use Rattle.instructions.specs.Programs.{Program}
use Rattle.inorder.specs.declared.history.Act.TheVariants.{Mend}
use Rattle.inorder.specs.declared.history.Entry.{Entry}
use Rattle.inorder.specs.declared.history.Event.{Event}
use Rattle.inorder.specs.declared.history.Event.TheVariants.{Does}
use Rattle.inorder.specs.declared.history.Step.TheVariants.{On}
use Rattle.inorder.specs.Callers.{CanMend}
use Rattle.inorder.specs.History.{IsLegal, entry, front, own, unit_of}
use Rattle.inorder.specs.OneHistory.{Adds}
use Rattle.inorder.specs.Legal.{Allowed, applied}
use Rattle.inorder.specs.StationWords.{live_word, station_word}
use Rattle.inorder.specs.Tenants.{Done, Miss, Tenant, on_path, stands_on_path}
use Rattle.inorder.specs.Unit.{Sizes, UpdateUnit, next_station, recent}
use Rattle.inorder.proofs.Ends.{may_mend, mend_stays}
use Rattle.inorder.proofs.Histories.{adds_on, none_renewed}
use Rattle.inorder.proofs.Stations.{mended_station}
use Rattle.ruu_words.specs.declared.place.Place.TheVariants.{Station}
use Rattle.ruu_words.specs.declared.rule.Draft.{Draft}
use Rattle.ruu_words.specs.declared.rule.Draft.TheVariants.{Nothing}
use Rattle.ruu_words.specs.declared.rule.View.{View}
use Rattle.ruu_words.specs.Content.{IsStation}
use Rattle.ruu_words.specs.Fields.{tag_of, word_value}
use Rattle.ruu_words.specs.Kinds.{IsNamed}
use Rattle.ruu_words.specs.Telling.{Grows}
use Rattle.ruu_words.proofs.Building.{changes}
use Rattle.ruu_words.specs.Plans.{Plan, Plans}
use Rattle.ruu_words.proofs.StationWords.{its_word, one_at}
use Rattle.ruu_words.proofs.Stays.{front_stays, named_stays}
use Rattle.ruu_words.proofs.Leaving.{mended_word}
use Rattle.station.specs.Recovery.{HasMiss, IsMended, Mends, SeesMiss}
use Rattle.station.proofs.Adding.{adds_these}
use Rattle.station.proofs.Seated.{next_stays}
use Rattle.inorder.proofs.Recent.{counts_same}

module _ (P : Program) (C : Sizes) where
  -- a miss that the front has seen is still there
  pub miss_on : (s g x : ℕ) (more seen : List Entry) → IsLegal P C (more ++ seen) → own front more ≡ [] → HasMiss P C seen s g x → HasMiss P C (more ++ seen) s g x
  miss_on s g x more seen legal none m = record {
    p = m.p;
    named = named_stays P C m.p s g more seen legal (none_renewed P C more seen legal none) m.named;
    can = front_stays P C (λ U. CanMend U m.p x) (λ U by st b a ok q. mend_stays P C U by st b a ok m.p x q) more seen legal none m.can;
  }

  pub mends_plan : (id : ℕ) (v : View) (s g x new : ℕ) → id ≡ front → v.draft ≡ Nothing → HasMiss P C v.seen s g x → IsStation (live_word g (Done x)) new →
      Plans P C id v (Station s) (λ _. new) (λ _. Mends P C s)
  mends_plan id v s g x new is_front none miss word between d legal same apart caller mine draft n small content =
      let h : List Entry = between ++ v.seen in
      let U : UpdateUnit = unit_of P C h in
      let now : HasMiss P C h s g x = miss_on s g x between v.seen legal (subst (λ z. own z between ≡ []) is_front apart) miss in
      let p : ℕ = now.p in
      let c : CanMend U p x = now.can in
      let t : Tenant = c.miss.tenant in
      let one : now.named.tenant ≡ t = one_at P C h legal p now.named.tenant t now.named.is c.miss.is in
      let at_s : t.station ≡ s = ap (λ (z : Tenant). z.station) (sym one) ∙ now.named.station_is in
      let tag : t.tag ≡ g = ap (λ (z : Tenant). z.tag) (sym one) ∙ now.named.tag_is in
      let quiet : d ≡ Nothing = sym (mine is_front) ∙ none in
      let fits : IsStation (live_word t.tag (Done x)) new = subst (λ (z : ℕ). IsStation (live_word z (Done x)) new) (sym tag) word in
      subst (λ z. Plan P C id h d (Station z) new (Mends P C s)) at_s
      (changes P C id h d legal draft p Mend t tt (inl quiet) is_front (record { tenant = t; is = c.miss.is; may = may_mend U p x c }) c.miss.is new
      (mended_word t (suc t.tag) x new t.fate c.miss.fact.fate c.miss.fact.live fits)
      (Mends P C s) (record { tag = g; next = x; miss = now; added = refl; draft = quiet }))

  -- the word that a look at it finds
  pub miss_word : (h : List Entry) → IsLegal P C h → (s g x n : ℕ) → HasMiss P C h s g x → IsStation (station_word C (recent (unit_of P C h)) s) n → (tag_of n ≡ g) × (word_value n ≡ x)
  miss_word h legal s g x n m word =
      let t : Tenant = m.can.miss.tenant in
      let one : m.named.tenant ≡ t = one_at P C h legal m.p m.named.tenant t m.named.is m.can.miss.is in
      let at_s : t.station ≡ s = ap (λ (z : Tenant). z.station) (sym one) ∙ m.named.station_is in
      let w = its_word P C h legal m.p s n t m.can.miss.is at_s m.can.miss.fact.live word in
      let it : IsStation (live_word t.tag (Miss x)) n = subst (λ f. IsStation (live_word t.tag f) n) m.can.miss.fact.fate w in
      (it.tag ∙ (ap (λ (z : Tenant). z.tag) (sym one) ∙ m.named.tag_is), it.value)

  -- mending leaves the path
  pub next_after : (U : UpdateUnit) (by p : ℕ) → Allowed P C U by (On p Mend) → next_station C (recent (applied P C U by (On p Mend))) ≡ next_station C (recent U)
  next_after U by p a =
      let t = a.tenant in
      let same = ap stands_on_path (mended_station t t.fate).1 in
      ap (λ n. n % C.ring) (counts_same P U by p Mend t a.is on_path same)

  -- there is one miss that can be mended
  one_miss : (V : UpdateUnit) (p q x y : ℕ) → CanMend V p x → CanMend V q y → p ≡ q
  one_miss V p q x y a b = dite (ℕ_discrete p q) (λ e. e) (λ ne. ⊎_elim
      (λ less. absurd (a.youngest q b.miss.tenant less b.miss.is b.miss.fact.live))
      (λ more. absurd (b.youngest p a.miss.tenant (omega arith) a.miss.is a.miss.fact.live))
      (cases_lt p q))

  abbrev IsMissAt : (p s g x : ℕ) → List Entry → Type 0
  IsMissAt p s g x h = IsNamed (unit_of P C h) p s g × CanMend (unit_of P C h) p x

  miss_at : (p s g x : ℕ) (more seen : List Entry) → IsLegal P C (more ++ seen) → own front more ≡ [] → IsMissAt p s g x seen → IsMissAt p s g x (more ++ seen)
  miss_at p s g x more seen legal none m = (
    named_stays P C p s g more seen legal (none_renewed P C more seen legal none) m.0,
    front_stays P C (λ U. CanMend U p x) (λ U by st b a ok q. mend_stays P C U by st b a ok p x q) more seen legal none m.1,
  )

  -- the look and the write together
  pub mended_out : (by s : ℕ) (v0 v1 w : View) (Kind : List Entry → Draft → List Event → Type 0) (g1 : Grows P C by v0 v1 Kind) → g1.events ≡ [] → Grows P C by v1 w (Mends P C s) → by ≡ front →
      SeesMiss P C v0.seen s
      → IsMended P C by s v0.seen w.seen
  mended_out by s v0 v1 w Kind g1 none g2 is sees =
      let m = g2.kind in
      let p : ℕ = sees.miss.p in
      let g : ℕ = sees.tag in
      let x : ℕ = sees.next in
      let mid : List Entry = g1.between ++ v0.seen in
      let last : List Entry = g2.between ++ v1.seen in
      let seen1 : v1.seen ≡ mid = g1.is ∙ ap (λ es. map (entry by) es ++ mid) none in
      let seen2 : w.seen ≡ entry by (Does (On m.miss.p Mend)) ∷ last = g2.is ∙ ap (λ es. map (entry by) es ++ last) m.added in
      let legal1 : IsLegal P C mid = subst (IsLegal P C) seen1 g1.legal in
      let legal2 : IsLegal P C (entry by (Does (On m.miss.p Mend)) ∷ last) = subst (IsLegal P C) seen2 g2.legal in
      let none1 : own front g1.between ≡ [] = subst (λ i. own i g1.between ≡ []) is g1.not_own in
      let none2 : own front g2.between ≡ [] = subst (λ i. own i g2.between ≡ []) is g2.not_own in
      let m1 : IsMissAt p s g x v1.seen = subst (IsMissAt p s g x) (sym seen1) (miss_at p s g x g1.between v0.seen legal1 none1 (sees.miss.named, sees.miss.can)) in
      let m2 : IsMissAt p s g x last = miss_at p s g x g2.between v1.seen legal2.0 none2 m1 in
      let one : m.miss.p ≡ p = one_miss (unit_of P C last) m.miss.p p m.next x m.miss.can m2.1 in
      let adds = adds_on P C by v0.seen v1.seen w.seen [] (Does (On m.miss.p Mend) ∷ []) (adds_these P C by v0 v1 Kind [] g1 none)
      (adds_these P C by v1 w (Mends P C s) (Does (On m.miss.p Mend) ∷ []) g2 m.added) in
      record {
        p = p;
        tag = g;
        next = x;
        named = subst (λ h. IsNamed (unit_of P C h) p s g) (sym seen2) (named_stays P C p s g (entry by (Does (On m.miss.p Mend)) ∷ []) last legal2 refl m2.0);
        can = sees.miss.can;
        adds = subst (λ z. Adds P C by v0.seen w.seen (Does (On z Mend) ∷ [])) one adds;
      }

  station_on : (more seen : List Entry) → IsLegal P C (more ++ seen) → own front more ≡ [] → next_station C (recent (unit_of P C (more ++ seen))) ≡ next_station C (recent (unit_of P C seen))
  station_on more seen legal none = front_stays P C (λ U. next_station C (recent U) ≡ next_station C (recent (unit_of P C seen))) (λ U b st ok a sound q. next_stays P C U b st ok a sound ∙ q) more
      seen legal none refl

  -- the front's next station stays
  pub next_out : (by s : ℕ) (v0 v1 w : View) (Kind : List Entry → Draft → List Event → Type 0) (g1 : Grows P C by v0 v1 Kind) → g1.events ≡ [] → Grows P C by v1 w (Mends P C s) → by ≡ front
      → next_station C (recent (unit_of P C w.seen)) ≡ next_station C (recent (unit_of P C v0.seen))
  next_out by s v0 v1 w Kind g1 none g2 is =
      let seen1 : v1.seen ≡ g1.between ++ v0.seen = g1.is ∙ ap (λ es. map (entry by) es ++ (g1.between ++ v0.seen)) none in
      let h : List Entry = g2.between ++ v1.seen in
      let p : ℕ = g2.kind.miss.p in
      let seen2 : w.seen ≡ entry by (Does (On p Mend)) ∷ h = g2.is ∙ ap (λ es. map (entry by) es ++ h) g2.kind.added in
      let legal2 : IsLegal P C (entry by (Does (On p Mend)) ∷ h) = subst (IsLegal P C) seen2 g2.legal in
      let legal1 : IsLegal P C (g1.between ++ v0.seen) = subst (IsLegal P C) seen1 g1.legal in
      let none1 : own front g1.between ≡ [] = subst (λ i. own i g1.between ≡ []) is g1.not_own in
      let none2 : own front g2.between ≡ [] = subst (λ i. own i g2.between ≡ []) is g2.not_own in
      ap (λ z. next_station C (recent (unit_of P C z))) seen2
      ∙ (next_after (unit_of P C h) by p legal2.1.1
      ∙ (station_on g2.between v1.seen legal2.0 none2
      ∙ (ap (λ z. next_station C (recent (unit_of P C z))) seen1
      ∙ station_on g1.between v0.seen legal1 none1)))
