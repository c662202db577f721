-- The writes with which a tenant is squashed, mended or retired.
use Rattle.std.proofs.Common.{◌≡◌, ℕ, suc, ◌^◌, ◌<◌, List, [], ◌++◌, Option, Some, refl, sym, ap, ◌∙◌, subst, inr}
use Rattle.instructions.specs.Programs.{Program}
use Rattle.inorder.specs.declared.history.Act.TheVariants.{Retire}
use Rattle.inorder.specs.declared.history.Entry.{Entry}
use Rattle.inorder.specs.declared.history.Event.TheVariants.{Does}
use Rattle.inorder.specs.declared.history.Step.TheVariants.{On}
use Rattle.inorder.specs.Callers.{CanLeave}
use Rattle.inorder.proofs.Recent.{live_is_recent}
use Rattle.inorder.specs.History.{IsLegal, back, own, unit_of}
use Rattle.inorder.specs.StationWords.{IsFree, left_value, live_word, station_word, station_word_of}
use Rattle.inorder.specs.Steps.{made_at_end, mended_as}
use Rattle.inorder.specs.Tenants.{Addr, Busy, Done, Fate, Guessed, Live, Miss, Open, Stopped, Tenant}
use Rattle.inorder.specs.Unit.{Sizes, UpdateUnit, at, recent}
use Rattle.inorder.proofs.Ends.{leave_stays, may_retire}
use Rattle.ruu_words.specs.declared.place.Place.TheVariants.{Station}
use Rattle.ruu_words.specs.declared.rule.Role.TheVariants.{Back}
use Rattle.ruu_words.specs.declared.rule.View.{View}
use Rattle.ruu_words.specs.Content.{IsStation}
use Rattle.ruu_words.specs.Fields.{tag_of}
use Rattle.ruu_words.specs.Kinds.{IsNamed, IsTenant, Writes}
use Rattle.ruu_words.specs.Views.{IsCaller}
use Rattle.ruu_words.proofs.Building.{changes}
use Rattle.ruu_words.specs.Plans.{Plan, Plans}
use Rattle.ruu_words.proofs.StationWords.{its_word, live_state, one_at, still_live}
use Rattle.ruu_words.proofs.Stays.{back_stays, named_stays}

pub mended_word : (t : Tenant) (k x n : ℕ) (f : Fate) → f ≡ Miss x → t.standing ≡ Live → IsStation (live_word t.tag (Done x)) n → IsStation (station_word_of k (Some (mended_as t f))) n
mended_word t k x n f e live w = subst (λ f. IsStation (station_word_of k (Some (mended_as t f))) n) (sym e) (still_live t.standing k t.tag (Done x) t.made n live w)

left_same : (f : Fate) (made : Option ℕ) (m : ℕ) → left_value f (made_at_end f made m) ≡ left_value f (Some m)
left_same Open made m = refl
left_same (Busy by) made m = refl
left_same (Addr a) made m = refl
left_same (Done v) made m = refl
left_same (Guessed v) made m = refl
left_same (Miss x) made m = refl
left_same (Stopped c) made m = refl

module _ (P : Program) (C : Sizes) where
  -- the word that such a write finds
  found : (h : List Entry) (legal : IsLegal P C h) (p s n : ℕ) (t : Tenant) → at (unit_of P C h).tenants p ≡ Some t → t.station ≡ s → t.standing ≡ Live →
      IsStation (station_word C (recent (unit_of P C h)) s) n
      → IsTenant (unit_of P C h) p s (tag_of n) (λ t. IsStation (live_word t.tag t.fate) n)
  found h legal p s n t is station_is live content =
      let w = its_word P C h legal p s n t is station_is live content in
      record { tenant = t; is = is; new = live_is_recent P C h legal p t is live; station_is = station_is; tag_is = sym (live_state t.tag n t.fate w).0; fact = w }

  -- m is what is kept of a stop
  pub retire_plan : (id : ℕ) (v : View) (s g p m new : ℕ) (f : Fate) → v.role ≡ Back → m < 2 ^ 32 → IsNamed (unit_of P C v.seen) p s g → CanLeave P (unit_of P C v.seen) p f
      → IsStation (record { tag = suc g; state = IsFree; value = left_value f (Some m) }) new → Plans P C id v (Station s) (λ _. new) (Writes P C (Does (On p (Retire m))) p s)
  retire_plan id v s g p m new f role word_m named can word between d legal same apart caller mine draft n small content =
      let h : List Entry = between ++ v.seen in
      let U : UpdateUnit = unit_of P C h in
      let is_back : id ≡ back = subst (λ r. IsCaller r id) role caller in
      let i = named_stays P C p s g between v.seen legal same named in
      let c = back_stays P C (λ U. CanLeave P U p f) (λ U by s b a ok q. leave_stays P C U by s b a ok p f q) between v.seen legal same (subst (λ z. own z between ≡ []) is_back apart) can in
      let t : Tenant = c.tenant in
      let one : i.tenant ≡ t = one_at P C h legal p i.tenant t i.is c.is in
      let at_s : t.station ≡ s = ap (λ (x : Tenant). x.station) (sym one) ∙ i.station_is in
      let tag : t.tag ≡ g = ap (λ (x : Tenant). x.tag) (sym one) ∙ i.tag_is in
      let left : left_value t.fate (made_at_end t.fate t.made m) ≡ left_value f (Some m) = left_same t.fate t.made m ∙ ap (λ z. left_value z (Some m)) c.fate in
      subst (λ x. Plan P C id h d (Station x) new (Writes P C (Does (On p (Retire m))) p s n)) at_s
      (changes P C id h d legal draft p (Retire m) t tt (inr tt) is_back (record { tenant = t; is = c.is; may = may_retire P U p m f c word_m }) c.is new
      (subst (λ (z : ℕ × Option ℕ). IsStation (record { tag = suc z.0; state = IsFree; value = z.1 }) new) (λ j. (sym tag j, sym left j)) word)
      (Writes P C (Does (On p (Retire m))) p s n) (record { added = refl; found = found h legal p s n t c.is at_s c.live content }))
