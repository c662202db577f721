-- The tenants let since the last renewal, among all tenants of a unit.
use Rattle.std.proofs.Common.{◌≡◌, ◌≢◌, ◌⊎◌, ℕ, zero, suc, ◌+◌, ◌-◌, ◌<◌, ◌≤◌, Bool, true, false, cond, eqb, ltb, List, [], ◌∷◌, ◌++◌, length, Some, refl, sym, ap, ◌∙◌, subst, inl, inr, ⊎_elim, arith}
use Rattle.std.proofs.Common.{length-append, eqb-true, eq-eqb, ne_eqb, ltb-true, ltb-false, true≢false}
use Rattle.std.proofs.lemmas.Bool.{lt-ltb}
use Rattle.std.specs.List.{AllByRecursion}
use Rattle.std.proofs.lemmas.Option.{same_Some}
use Rattle.instructions.specs.Programs.{Program}
use Rattle.inorder.specs.declared.history.Act.{Act}
use Rattle.inorder.specs.declared.history.Entry.{Entry}
use Rattle.inorder.specs.declared.history.Event.{Event}
use Rattle.inorder.specs.declared.history.Event.TheVariants.{Does, Marks, Refuses}
use Rattle.inorder.specs.declared.history.Step.{Step}
use Rattle.inorder.specs.declared.history.Step.TheVariants.{Let, On, Renew}
use Rattle.inorder.specs.Callers.{IsLastAt}
use Rattle.inorder.specs.History.{IsLegal, MayAdd, entry, renewals, renewed_by, taken_of, unit_of}
use Rattle.instructions.specs.Histories.{StartsWith}
use Rattle.inorder.specs.Laws.{FitsRing}
use Rattle.inorder.specs.Legal.{Allowed, applied, change_at, changed}
use Rattle.inorder.specs.StationWords.{last_of}
use Rattle.inorder.specs.Steps.{new_tenant}
use Rattle.inorder.specs.Tenants.{IsNotLive, Live, Tenant}
use Rattle.inorder.specs.Unit.{Sizes, UpdateUnit, at, how_many, is_old, newest_of, older, recent, younger}
use Rattle.inorder.proofs.Basics.{split_at}
use Rattle.inorder.proofs.Histories.{allowed_steps, renewals_more}
use Rattle.inorder.proofs.Kept.{parts}
use Rattle.inorder.proofs.Letting.{how_many_same}
use Rattle.inorder.proofs.Moves.{length_changed}
use Rattle.inorder.proofs.Positions.{at_below, at_more, at_new}
use Rattle.inorder.proofs.QueuePlaces.{older_length}
use Rattle.inorder.proofs.Stations.{OldGone, old_gone}
use Rattle.inorder.proofs.Tags.{AreTagged, IsNewPlace, IsOldPlace, cut, live_new, names_one, passed}

-- As many as there are: all of them
pub newest_all : (ts : List Tenant) → newest_of (length ts) ts ≡ ts
newest_all [] = refl
newest_all (t ∷ ts) = ap (λ z. t ∷ z) (newest_all ts)

-- Which positions are recent

not_less : (n m : ℕ) → m ≤ n → ltb n m ≡ false
not_less n m le = go (ltb n m) refl
  where
    go : (b : Bool) → ltb n m ≡ b → ltb n m ≡ false
    go true e = let less = ltb-true n m e in absurd (omega arith)
    go false e = e

pub new_by : (U : UpdateUnit) (p : ℕ) → length U.tenants ≤ p + U.fresh → is_old U p ≡ false
new_by U p le = not_less (p + U.fresh) (length U.tenants) le

pub new_from : (U : UpdateUnit) (p : ℕ) → is_old U p ≡ false → length U.tenants ≤ p + U.fresh
new_from U p e = ltb-false (p + U.fresh) (length U.tenants) e

-- how many were let before the last renewal
pub gone_below : (n : ℕ) (ts : List Tenant) (p : ℕ) → length ts ≤ p + n → length (passed n ts) ≤ p
gone_below zero ts p le = omega (arith, le)
gone_below (suc n) [] p le = omega arith
gone_below (suc n) (t ∷ ts) p le = gone_below n ts p (omega (arith, le))

gone_above : (n : ℕ) (ts : List Tenant) (p : ℕ) → length (passed n ts) ≤ p → length ts ≤ p + n
gone_above zero ts p le = omega (arith, le)
gone_above (suc n) [] p le = omega arith
gone_above (suc n) (t ∷ ts) p le = let more = gone_above n ts p le in omega (arith, more)

pub wide : (n : ℕ) (ts : List Tenant) → length ts ≡ length (newest_of n ts) + length (passed n ts)
wide zero ts = omega arith
wide (suc n) [] = omega arith
wide (suc n) (t ∷ ts) = let more = wide n ts in omega (arith, more)

-- a recent tenant's position among all
pub at_all : (n : ℕ) (ts : List Tenant) (r : ℕ) (t : Tenant) → at (newest_of n ts) r ≡ Some t →
    at ts (r + length (passed n ts)) ≡ Some t
at_all zero ts r t e = absurd (cc e)
at_all (suc n) [] r t e = absurd (cc e)
at_all (suc n) (u ∷ ts) r t e = go (eqb r (length (newest_of n ts))) refl (at_all n ts r t)
  where
    go : (b : Bool) → eqb r (length (newest_of n ts)) ≡ b →
        (at (newest_of n ts) r ≡ Some t → at ts (r + length (passed n ts)) ≡ Some t) →
        at (u ∷ ts) (r + length (passed n ts)) ≡ Some t
    go true here more =
        let same = eqb-true r (length (newest_of n ts)) here in
        let all = wide n ts in
        let there : r + length (passed n ts) ≡ length ts = omega (arith, same, all) in
        ap (λ b. cond b (Some u) (at ts (r + length (passed n ts)))) (eq-eqb (r + length (passed n ts)) (length ts) there)
        ∙ ap (λ b. cond b (Some u) (at (newest_of n ts) r)) (sym here) ∙ e
    go false here more =
        let was : at (newest_of n ts) r ≡ Some t = ap (λ b. cond b (Some u) (at (newest_of n ts) r)) (sym here) ∙ e in
        let below = at_below (newest_of n ts) r t was in
        let all = wide n ts in
        let apart : r + length (passed n ts) ≢ length ts = λ z. absurd (omega (arith, below, all, z)) in
        ap (λ b. cond b (Some u) (at ts (r + length (passed n ts)))) (ne_eqb (r + length (passed n ts)) (length ts) apart)
        ∙ more was

-- and among the recent ones
pub at_newest : (n : ℕ) (ts : List Tenant) (r : ℕ) (t : Tenant) → at ts (r + length (passed n ts)) ≡ Some t →
    at (newest_of n ts) r ≡ Some t
at_newest zero ts r t e = let below = at_below ts (r + length ts) t e in absurd (omega (arith, below))
at_newest (suc n) [] r t e = absurd (cc e)
at_newest (suc n) (u ∷ ts) r t e = go (eqb (r + length (passed n ts)) (length ts)) refl (at_newest n ts r t)
  where
    go : (b : Bool) → eqb (r + length (passed n ts)) (length ts) ≡ b →
        (at ts (r + length (passed n ts)) ≡ Some t → at (newest_of n ts) r ≡ Some t) →
        at (u ∷ newest_of n ts) r ≡ Some t
    go true here more =
        let same = eqb-true (r + length (passed n ts)) (length ts) here in
        let all = wide n ts in
        let there : r ≡ length (newest_of n ts) = omega (arith, same, all) in
        ap (λ b. cond b (Some u) (at (newest_of n ts) r)) (eq-eqb r (length (newest_of n ts)) there)
        ∙ ap (λ b. cond b (Some u) (at ts (r + length (passed n ts)))) (sym here) ∙ e
    go false here more =
        let was : at ts (r + length (passed n ts)) ≡ Some t = ap (λ b. cond b (Some u) (at ts (r + length (passed n ts)))) (sym here) ∙ e in
        let below = at_below ts (r + length (passed n ts)) t was in
        let all = wide n ts in
        let apart : r ≢ length (newest_of n ts) = λ z. absurd (omega (arith, below, all, z)) in
        ap (λ b. cond b (Some u) (at (newest_of n ts) r)) (ne_eqb r (length (newest_of n ts)) apart) ∙ more was

-- A recent tenant, with its position among the recent ones
pub record IsRecentAt (U : UpdateUnit) (p : ℕ) (t : Tenant) : Type 0 where
  pub r : ℕ
  pub is : at (recent U) r ≡ Some t
  pub position : p ≡ r + length (passed U.fresh U.tenants)

pub recent_at : (U : UpdateUnit) (p : ℕ) (t : Tenant) → at U.tenants p ≡ Some t → is_old U p ≡ false → IsRecentAt U p t
recent_at U p t e new =
    let low = gone_below U.fresh U.tenants p (new_from U p new) in
    let there : (r : ℕ) × (p ≡ r + length (passed U.fresh U.tenants)) = split p (length (passed U.fresh U.tenants)) low in
    record {
      r = there.0;
      is = at_newest U.fresh U.tenants there.0 t (ap (at U.tenants) (sym there.1) ∙ e);
      position = there.1;
    }
  where
    split : (p g : ℕ) → g ≤ p → (r : ℕ) × (p ≡ r + g)
    split p g le = (p - g, omega arith)

-- A tenant among the recent ones, with its position among all
pub record IsAllAt (U : UpdateUnit) (r : ℕ) (t : Tenant) : Type 0 where
  pub p : ℕ
  pub is : at U.tenants p ≡ Some t
  pub new : is_old U p ≡ false
  pub position : p ≡ r + length (passed U.fresh U.tenants)

pub among_all : (U : UpdateUnit) (r : ℕ) (t : Tenant) → at (recent U) r ≡ Some t → IsAllAt U r t
among_all U r t e = record {
  p = r + length (passed U.fresh U.tenants);
  is = at_all U.fresh U.tenants r t e;
  new = new_by U (r + length (passed U.fresh U.tenants)) (gone_above U.fresh U.tenants (r + length (passed U.fresh U.tenants)) (omega arith));
  position = refl;
}

-- A live tenant is recent
pub live_recent : (U : UpdateUnit) → OldGone U → (p : ℕ) (t : Tenant) → at U.tenants p ≡ Some t →
    t.standing ≡ Live → is_old U p ≡ false
live_recent U gone p t e live =
    let split = split_at U.tenants p t e in
    let n = live_new U.fresh (younger U.tenants p) (older U.tenants p) t
    (subst (λ z. AllByRecursion IsNotLive (passed U.fresh z)) split gone) live in
    let many = n.many in
    let long = ap (λ z. length z) split in
    let all = length-append (younger U.tenants p) (t ∷ older U.tenants p) in
    let own = older_length U.tenants p t e in
    new_by U p (omega (arith, many, long, all, own))

-- the tenants after a recent one are recent
younger_newest : (n : ℕ) (ts : List Tenant) (r : ℕ) (t : Tenant) → at (newest_of n ts) r ≡ Some t →
    younger (newest_of n ts) r ≡ younger ts (r + length (passed n ts))
younger_newest zero ts r t e = absurd (cc e)
younger_newest (suc n) [] r t e = absurd (cc e)
younger_newest (suc n) (u ∷ ts) r t e = go (eqb r (length (newest_of n ts))) refl (younger_newest n ts r t)
  where
    go : (b : Bool) → eqb r (length (newest_of n ts)) ≡ b →
        (at (newest_of n ts) r ≡ Some t → younger (newest_of n ts) r ≡ younger ts (r + length (passed n ts))) →
        younger (u ∷ newest_of n ts) r ≡ younger (u ∷ ts) (r + length (passed n ts))
    go true here more =
        let same = eqb-true r (length (newest_of n ts)) here in
        let all = wide n ts in
        let there : r + length (passed n ts) ≡ length ts = omega (arith, same, all) in
        ap (λ b. cond b [] (u ∷ younger (newest_of n ts) r)) here
        ∙ sym (ap (λ b. cond b [] (u ∷ younger ts (r + length (passed n ts)))) (eq-eqb (r + length (passed n ts)) (length ts) there))
    go false here more =
        let was : at (newest_of n ts) r ≡ Some t = ap (λ b. cond b (Some u) (at (newest_of n ts) r)) (sym here) ∙ e in
        let below = at_below (newest_of n ts) r t was in
        let all = wide n ts in
        let apart : r + length (passed n ts) ≢ length ts = λ z. absurd (omega (arith, below, all, z)) in
        ap (λ b. cond b [] (u ∷ younger (newest_of n ts) r)) here
        ∙ ap (λ z. u ∷ z) (more was)
        ∙ sym (ap (λ b. cond b [] (u ∷ younger ts (r + length (passed n ts)))) (ne_eqb (r + length (passed n ts)) (length ts) apart))

pub younger_recent : (U : UpdateUnit) (p : ℕ) (t : Tenant) (x : IsRecentAt U p t) → younger (recent U) x.r ≡ younger U.tenants p
younger_recent U p t x = younger_newest U.fresh U.tenants x.r t x.is ∙ ap (younger U.tenants) (sym x.position)

-- a live tenant is the last of its station
pub live_is_last : (C : Sizes) (U : UpdateUnit) → FitsRing C (recent U) → OldGone U → (p : ℕ) (t : Tenant) → at U.tenants p ≡ Some t →
    t.standing ≡ Live → AllByRecursion (λ u. u.station ≢ t.station) (younger U.tenants p)
live_is_last C U ring gone p t e live =
    let x = recent_at U p t e (live_recent U gone p t e live) in
    subst (AllByRecursion (λ u. u.station ≢ t.station))
    (younger_recent U p t x) (ring.last x.r t x.is live)

-- The last tenant of a station

last_by : (ts : List Tenant) (q : ℕ) (u : Tenant) → at ts q ≡ Some u → ((r : ℕ) (y : Tenant) → q < r → at ts r ≡ Some y → y.station ≢ u.station) → last_of ts u.station ≡ Some u
last_by [] q u is none = absurd (cc is)
last_by (x ∷ xs) q u is none = go (eqb q (length xs)) refl (last_by xs q u)
  where
    go : (b : Bool) → eqb q (length xs) ≡ b → (at xs q ≡ Some u → ((r : ℕ) (y : Tenant) → q < r → at xs r ≡ Some y → y.station ≢ u.station) → last_of xs u.station ≡ Some u) →
        last_of (x ∷ xs) u.station ≡ Some u
    go true e more =
        let same : x ≡ u = same_Some x u (ap (λ b. cond b (Some x) (at xs q)) (sym e) ∙ is) in
        ap (λ b. cond b (Some x) (last_of xs u.station)) (eq-eqb x.station u.station (ap (λ (z : Tenant). z.station) same)) ∙ ap Some same
    go false e more =
        let there : at xs q ≡ Some u = ap (λ b. cond b (Some x) (at xs q)) (sym e) ∙ is in
        let below = at_below xs q u there in
        ap (λ b. cond b (Some x) (last_of xs u.station)) (ne_eqb x.station u.station (none (length xs) x below (at_new x xs)))
        ∙ more there (λ r y lt f. none r y lt (at_more x xs r y f))

pub last_of_recent : (U : UpdateUnit) (p : ℕ) (t : Tenant) → at U.tenants p ≡ Some t → is_old U p ≡ false → IsLastAt U p t.station →
    last_of (recent U) t.station ≡ Some t
last_of_recent U p t e new last =
    let x = recent_at U p t e new in
    let position = x.position in
    last_by (recent U) x.r t x.is (λ r y lt f.
    let a = among_all U r y f in
    let there = a.position in
    last a.p y (omega (arith, lt, position, there)) a.is)

-- A station and a tag name one recent tenant
pub names_recent : (C : Sizes) (U : UpdateUnit) → AreTagged C (recent U) → (p q : ℕ) (t u : Tenant) →
    at U.tenants p ≡ Some t → at U.tenants q ≡ Some u → is_old U p ≡ false → is_old U q ≡ false →
    t.station ≡ u.station → t.tag ≡ u.tag → p ≡ q
names_recent C U tags p q t u e f a b same tag =
    let x = recent_at U p t e a in
    let y = recent_at U q u f b in
    let one = names_one C (recent U) x.r y.r t u tags x.is y.is same tag in
    x.position ∙ (ap (λ r. r + length (passed U.fresh U.tenants)) one ∙ sym y.position)

-- A tenant that changes, among the recent ones

pub new_place : (U : UpdateUnit) (p : ℕ) (t : Tenant) → at U.tenants p ≡ Some t → is_old U p ≡ false →
    IsNewPlace U.fresh (younger U.tenants p) (older U.tenants p)
new_place U p t e new = ⊎_elim
    (λ (old : IsOldPlace U.fresh (younger U.tenants p) (older U.tenants p)).
    let few = old.few in
    let long = ap (λ z. length z) (split_at U.tenants p t e) in
    let all = length-append (younger U.tenants p) (t ∷ older U.tenants p) in
    let own = older_length U.tenants p t e in
    let le = new_from U p new in
    absurd (omega (arith, few, long, all, own, le)))
    (λ n. n)
    (cut U.fresh (younger U.tenants p) (older U.tenants p))

pub record IsRecentChange (P : Program) (U : UpdateUnit) (by p : ℕ) (act : Act) (t : Tenant) : Type 0 where
  pub zs : List Tenant
  pub before : recent U ≡ younger U.tenants p ++ t ∷ zs
  pub after : newest_of U.fresh (change_at P U.tenants by p act (at U.tenants p)) ≡
      younger U.tenants p ++ changed P by act t (older U.tenants p) ∷ zs

pub recent_change : (P : Program) (U : UpdateUnit) (by p : ℕ) (act : Act) (t : Tenant) → at U.tenants p ≡ Some t → is_old U p ≡ false →
    IsRecentChange P U by p act t
recent_change P U by p act t e new =
    let n = new_place U p t e new in
    record {
      zs = n.zs;
      before = ap (newest_of U.fresh) (split_at U.tenants p t e) ∙ n.is t;
      after = ap (newest_of U.fresh) (parts P U.tenants by p act t e) ∙ n.is (changed P by act t (older U.tenants p));
    }

-- as many of a kind, where it stays of that kind
pub counts_same : (P : Program) (U : UpdateUnit) (by p : ℕ) (act : Act) (t : Tenant) → at U.tenants p ≡ Some t → (f : Tenant → Bool) →
    f (changed P by act t (older U.tenants p)) ≡ f t →
    how_many f (newest_of U.fresh (change_at P U.tenants by p act (at U.tenants p))) ≡ how_many f (recent U)
counts_same P U by p act t e f same =
    let us = U.tenants in
    let u = changed P by act t (older us p) in
    ap (λ z. how_many f (newest_of U.fresh z)) (parts P us by p act t e)
    ∙ ⊎_elim
    (λ (old : IsOldPlace U.fresh (younger us p) (older us p)). ap (how_many f) (old.same u t))
    (λ (new : IsNewPlace U.fresh (younger us p) (older us p)).
    ap (how_many f) (new.is u) ∙ how_many_same f t u new.zs (younger us p) same ∙ sym (ap (how_many f) (new.is t)))
    (cut U.fresh (younger us p) (older us p))
    ∙ ap (λ z. how_many f (newest_of U.fresh z)) (sym (split_at us p t e))

-- A step that renews nothing

same_less : (a b c d : ℕ) → (a < b → c < d) → (b ≤ a → d ≤ c) → ltb c d ≡ ltb a b
same_less a b c d less least = go (ltb a b) refl
  where
    go : (x : Bool) → ltb a b ≡ x → ltb c d ≡ ltb a b
    go true e = lt-ltb c d (less (ltb-true a b e)) ∙ sym e
    go false e = not_less c d (least (ltb-false a b e)) ∙ sym e

-- one more tenant
pub old_more : (U : UpdateUnit) (t : Tenant) (p : ℕ) → is_old (record { tenants = t ∷ U.tenants; fresh = suc U.fresh }) p ≡ is_old U p
old_more U t p = same_less (p + U.fresh) (length U.tenants) (p + suc U.fresh) (suc (length U.tenants)) (λ h. omega (arith, h)) (λ h. omega (arith, h))

-- it is recent itself
pub new_there : (U : UpdateUnit) (t : Tenant) → is_old (record { tenants = t ∷ U.tenants; fresh = suc U.fresh }) (length U.tenants) ≡ false
new_there U t = old_more U t (length U.tenants) ∙ new_by U (length U.tenants) (omega arith)

-- the tenants of before are the same
pub old_kept : (P : Program) (C : Sizes) (U : UpdateUnit) (by : ℕ) (s : Step) → s ≢ Renew → Allowed P C U by s → (p : ℕ) → is_old (applied P C U by s) p ≡ is_old U p
old_kept P C U by (Let index predicted first second) ne a p = old_more U (new_tenant P C U index predicted first second) p
old_kept P C U by (On r act) ne a p = ap (λ n. ltb (p + U.fresh) n) (length_changed P U.tenants by r act a.tenant a.is)
old_kept P C U by Renew ne a p = absurd (ne refl)

-- Of a legal history

module _ (P : Program) (C : Sizes) where
  pub old_are_gone : (h : List Entry) → IsLegal P C h → OldGone (unit_of P C h)
  old_are_gone h legal = old_gone P C (taken_of h) (allowed_steps P C h legal)

  pub live_is_recent : (h : List Entry) → IsLegal P C h → (p : ℕ) (t : Tenant) → at (unit_of P C h).tenants p ≡ Some t → t.standing ≡ Live → is_old (unit_of P C h) p ≡ false
  live_is_recent h legal = live_recent (unit_of P C h) (old_are_gone h legal)

  -- a tenant is recent, or has left
  pub recent_or_left : (h : List Entry) → IsLegal P C h → (p : ℕ) (t : Tenant) → at (unit_of P C h).tenants p ≡ Some t → (is_old (unit_of P C h) p ≡ false) ⊎ IsNotLive t
  recent_or_left h legal p t is = go (is_old (unit_of P C h) p) refl
    where
      go : (b : Bool) → is_old (unit_of P C h) p ≡ b → (is_old (unit_of P C h) p ≡ false) ⊎ IsNotLive t
      go false e = inl e
      go true e = inr (λ live. true≢false (sym e ∙ live_is_recent h legal p t is live))

  -- where nothing is renewed, the tenants of before are the same
  pub old_same : (more seen : List Entry) → IsLegal P C (more ++ seen) → renewals (more ++ seen) ≡ renewals seen → (p : ℕ) → is_old (unit_of P C (more ++ seen)) p ≡ is_old (unit_of P C seen) p
  old_same [] seen legal same p = refl
  old_same (e ∷ more) seen legal same p = go e.by e.event legal.1 same (λ s. old_same more seen legal.0 s p)
    where
      U : UpdateUnit
      U = unit_of P C (more ++ seen)

      go : (by : ℕ) (x : Event) → MayAdd P C (more ++ seen) by x → renewed_by x (renewals (more ++ seen)) ≡ renewals seen →
          (renewals (more ++ seen) ≡ renewals seen → is_old U p ≡ is_old (unit_of P C seen) p)
          → is_old (unit_of P C (entry by x ∷ (more ++ seen))) p ≡ is_old (unit_of P C seen) p
      go by (Does (Let index predicted first second)) may s rest = old_kept P C U by (Let index predicted first second) (λ e. cc e) may.1 p ∙ rest s
      go by (Does (On r act)) may s rest = old_kept P C U by (On r act) (λ e. cc e) may.1 p ∙ rest s
      go by (Does Renew) may s rest = let a = renewals_more more seen in absurd (omega (arith, s, a))
      go by (Refuses r) may s rest = rest s
      go by (Marks m) may s rest = rest s

  pub old_since : (new old : List Entry) → StartsWith new old → IsLegal P C new → renewals new ≡ renewals old → (p : ℕ) → is_old (unit_of P C new) p ≡ is_old (unit_of P C old) p
  old_since new old s legal same p =
      ap (λ z. is_old (unit_of P C z) p) s.is
      ∙ old_same s.more old (subst (IsLegal P C) s.is legal) (sym (ap renewals s.is) ∙ same) p

  -- and who is let since is recent
  pub let_since : (new old : List Entry) → StartsWith new old → IsLegal P C new → renewals new ≡ renewals old → (p : ℕ) → length (unit_of P C old).tenants ≤ p → is_old (unit_of P C new) p ≡ false
  let_since new old s legal same p behind = old_since new old s legal same p ∙ new_by (unit_of P C old) p (omega (arith, behind))
