-- Where tenants stand.
use Rattle.std.proofs.Common.{◌≡◌, ◌≢◌, ℕ, zero, suc, ◌+◌, ◌*◌, ◌/◌, ◌%◌, ◌<◌, ◌≤◌, Bool, true, false, cond, List, [], ◌∷◌, ◌++◌, Some, refl, sym, ap, ◌∙◌, subst, ⊎_elim, arith, true≢false}
use Rattle.std.proofs.Common.{div-add-mod', mul-le-mul_right, suc-mul, append_assoc}
use Rattle.std.proofs.lemmas.Bool.{cases_lt}
use Rattle.std.specs.List.{AllByRecursion}
use Rattle.instructions.specs.Programs.{Program}
use Rattle.instructions.specs.declared.stop.Outcome.{Outcome}
use Rattle.instructions.specs.declared.stop.Outcome.TheVariants.{Address, Next, Pair, Stop as Stops, Value}
use Rattle.inorder.specs.declared.history.Act.{Act}
use Rattle.inorder.specs.declared.history.Act.TheVariants.{Claim, Deliver, Finish, Link, Load, Mend, Retire, Speculate, Squash}
use Rattle.inorder.specs.declared.history.Source.TheVariants.{First, Second}
use Rattle.inorder.specs.declared.history.Step.{Step}
use Rattle.inorder.specs.declared.history.Step.TheVariants.{Let, On, Renew}
use Rattle.inorder.specs.Laws.{FitsRing}
use Rattle.inorder.specs.Legal.{Allowed, AreAllowed, May, Taken, applied, changed, reached}
use Rattle.inorder.specs.Steps.{finished, mended_as, new_tenant}
use Rattle.inorder.specs.Tenants.{Addr, Busy, Done, Fate, Guessed, IsNotLive, Live, Miss, Open, Retired, Squashed, Standing, Stopped, Tenant, computed, is_live, on_path, stands_live, stands_on_path}
use Rattle.inorder.specs.Unit.{Sizes, UpdateUnit, at, how_many, newest_of, next_station, older, recent, younger}
use Rattle.inorder.proofs.Basics.{split_at}
use Rattle.inorder.proofs.Grows.{all_grows, all_mid}
use Rattle.inorder.proofs.Kept.{parts, sound}
use Rattle.inorder.proofs.Tags.{IsNewPlace, IsOldPlace, cut, passed}
use Rattle.inorder.proofs.Sound.{IsSettled, IsSound, SettledBy}
use Rattle.inorder.proofs.Letting.{how_many_same}
use Rattle.inorder.specs.declared.history.Speculation.TheVariants.{Confirm, Flush, Guess}
use Rattle.inorder.proofs.Speculating.{speculates_live}

-- whoever retired has only settled ones before it
abbrev pub AreSettling : List Tenant → Type 0
AreSettling [] = Unit {0}
AreSettling (t ∷ ts) = (t.standing ≡ Retired → AllByRecursion IsSettled ts) × AreSettling ts

pub settling : (P : Program) (ts : List Tenant) → IsSound P ts → AreSettling ts
settling P [] s = tt
settling P (t ∷ ts) s = ((λ e. (s.0.placed (ap stands_on_path e)).settled e), settling P ts s.1)

pub all_newest : (Q : Tenant → Type 0) (n : ℕ) (ts : List Tenant) → AllByRecursion Q ts → AllByRecursion Q (newest_of n ts)
all_newest Q zero ts h = tt
all_newest Q (suc n) [] h = tt
all_newest Q (suc n) (t ∷ ts) h = (h.0, all_newest Q n ts h.1)

pub settling_newest : (n : ℕ) (ts : List Tenant) → AreSettling ts → AreSettling (newest_of n ts)
settling_newest zero ts h = tt
settling_newest (suc n) [] h = tt
settling_newest (suc n) (t ∷ ts) h = ((λ e. all_newest IsSettled n ts (h.0 e)), settling_newest n ts h.1)

pub fewer_newest : (f : Tenant → Bool) (n : ℕ) (ts : List Tenant) → how_many f (newest_of n ts) ≤ how_many f ts
fewer_newest f zero ts = omega arith
fewer_newest f (suc n) [] = omega arith
fewer_newest f (suc n) (t ∷ ts) = go (f t) (fewer_newest f n ts)
  where
    go : (b : Bool) → how_many f (newest_of n ts) ≤ how_many f ts → cond b (suc (how_many f (newest_of n ts)))
        (how_many f (newest_of n ts)) ≤ cond b (suc (how_many f ts)) (how_many f ts)
    go true h = omega (arith, h)
    go false h = h

-- numbers that differ by less than n, and at all, differ modulo n
pub apart : (a d n : ℕ) → 0 < d → d < n → (a + d) % n ≢ a % n
apart a d n pos less same = ⊎_elim far near (cases_lt (a / n) ((a + d) / n))
  where
    e : a / n * n + a % n ≡ a
    e = div-add-mod' a n

    f : (a + d) / n * n + (a + d) % n ≡ a + d
    f = div-add-mod' (a + d) n

    far : a / n < (a + d) / n → ⊥
    far h = let m = mul-le-mul_right n h in omega (arith, e, f, m, suc-mul (a / n) n)

    near : (a + d) / n ≤ a / n → ⊥
    near h = let m = mul-le-mul_right n h in omega (arith, e, f, m)

-- each tenant of the path at its place
abbrev pub ArePlaced : Sizes → List Tenant → Type 0
ArePlaced C [] = Unit {0}
ArePlaced C (t ∷ ts) = (on_path t ≡ true → t.station ≡ how_many on_path ts % C.ring) × ArePlaced C ts

-- a live tenant's station is no younger one's
abbrev pub IsElsewhere : Tenant → Tenant → Type 0
IsElsewhere t u = u.standing ≡ Live → u.station ≢ t.station

abbrev pub AreApart : List Tenant → Type 0
AreApart [] = Unit {0}
AreApart (t ∷ ts) = AllByRecursion (IsElsewhere t) ts × AreApart ts

pub record Stands (C : Sizes) (U : List Tenant) : Type 0 where
  pub room : how_many is_live U ≤ C.ring
  pub placed : ArePlaced C U
  pub apart : AreApart U

-- Let

count_append : (f : Tenant → Bool) (xs ys : List Tenant) → how_many f (xs ++ ys) ≡ how_many f xs + how_many f ys
count_append f [] ys = omega arith
count_append f (x ∷ xs) ys = go (f x) (count_append f xs ys)
  where
    go : (b : Bool) → how_many f (xs ++ ys) ≡ how_many f xs + how_many f ys →
        cond b (suc (how_many f (xs ++ ys))) (how_many f (xs ++ ys)) ≡ cond b (suc (how_many f xs))
        (how_many f xs) + how_many f ys
    go true e = omega arith
    go false e = e

-- all tenants of the path after a live one are live
live_after : (P : Program) (t : Tenant) (ts ys : List Tenant) → t.standing ≡ Live → AreSettling (ys ++ t ∷ ts) →
    how_many on_path ys ≤ how_many is_live ys
live_after P t ts [] live s = omega arith
live_after P t ts (y ∷ ys) live s = go y.standing refl (live_after P t ts ys live s.1)
  where
    go : (st : Standing) → y.standing ≡ st → how_many on_path ys ≤ how_many is_live ys →
        cond (stands_on_path y.standing) (suc (how_many on_path ys)) (how_many on_path ys) ≤ cond
        (stands_live y.standing) (suc (how_many is_live ys)) (how_many is_live ys)
    go Live e h =
        subst (λ x. cond (stands_on_path x) (suc (how_many on_path ys)) (how_many on_path ys) ≤ cond
        (stands_live x) (suc (how_many is_live ys)) (how_many is_live ys)) (sym e) (omega arith)
    go Squashed e h =
        subst (λ x. cond (stands_on_path x) (suc (how_many on_path ys)) (how_many on_path ys) ≤ cond
        (stands_live x) (suc (how_many is_live ys)) (how_many is_live ys)) (sym e) h
    go Retired e h =
        let q = all_mid IsSettled t ts ys (s.0 e) in
        absurd (subst (λ x. SettledBy x t.fate) live q)

-- the next station is that of no live tenant
elsewhere : (P : Program) (C : Sizes) (n : Tenant) (ys : List Tenant) (t : Tenant) (ts : List Tenant) →
    n.station ≡ next_station C (ys ++ t ∷ ts) → how_many is_live (ys ++ t ∷ ts) < C.ring →
    AreSettling (ys ++ t ∷ ts) → ArePlaced C (t ∷ ts) → IsElsewhere n t
elsewhere P C n ys t ts e room s placed live same =
    let a = live_after P t ts ys live s in
    let on : on_path t ≡ true = ap stands_on_path live in
    let is : is_live t ≡ true = ap stands_live live in
    let c1 : how_many on_path (t ∷ ts) ≡ suc (how_many on_path ts) = ap (λ b. cond b
    (suc (how_many on_path ts)) (how_many on_path ts)) on in
    let c2 : how_many is_live (t ∷ ts) ≡ suc (how_many is_live ts) = ap (λ b. cond b
    (suc (how_many is_live ts)) (how_many is_live ts)) is in
    let d1 = count_append on_path ys (t ∷ ts) in
    let d2 = count_append is_live ys (t ∷ ts) in
    let far : how_many on_path (ys ++ t ∷ ts) ≡ how_many on_path ts + suc (how_many on_path ys) = omega arith in
    apart (how_many on_path ts) (suc (how_many on_path ys)) C.ring (omega arith) (omega arith)
    (sym (ap (λ x. x % C.ring) far) ∙ sym e ∙ sym same ∙ placed.0 on)

pub all_elsewhere : (P : Program) (C : Sizes) (n : Tenant) (U ys ts : List Tenant) → U ≡ ys ++ ts →
    n.station ≡ next_station C U → how_many is_live U < C.ring → AreSettling U → ArePlaced C ts →
    AllByRecursion (IsElsewhere n) ts
all_elsewhere P C n U ys [] q e room s placed = tt
all_elsewhere P C n U ys (t ∷ ts) q e room s placed =
    let here = elsewhere P C n ys t ts (e
    ∙ ap (next_station C) q) (subst (λ V. how_many is_live V < C.ring) q room) (subst
    AreSettling q s) placed in
    let q' : U ≡ (ys ++ t ∷ []) ++ ts = q ∙ sym (append_assoc ys (t ∷ []) ts) in
    (here, all_elsewhere P C n U (ys ++ t ∷ []) ts q' e room s placed.1)

let_stands : (P : Program) (C : Sizes) (U : List Tenant) (n : Tenant) → n.station ≡ next_station C U →
    n.standing ≡ Live → how_many is_live U < C.ring → AreSettling U → Stands C U → Stands C (n ∷ U)
let_stands P C U n e live room sound st =
    record {
      room =
          subst (λ b. cond b (suc (how_many is_live U)) (how_many is_live U) ≤ C.ring) (sym
          (ap stands_live live)) room;
      placed = ((λ on. e), st.placed);
      apart = (all_elsewhere P C n U [] U refl e room sound st.placed, st.apart);
    }

-- A tenant changes, and keeps its station

fewer : (t t' : Tenant) (ts ys : List Tenant) → (t'.standing ≡ Live → t.standing ≡ Live) →
    how_many is_live (ys ++ t' ∷ ts) ≤ how_many is_live (ys ++ t ∷ ts)
fewer t t' ts [] f = go t'.standing t.standing f
  where
    go : (a b : Standing) → (a ≡ Live → b ≡ Live) →
        cond (stands_live a) (suc (how_many is_live ts)) (how_many is_live ts) ≤ cond (stands_live b) (suc
        (how_many is_live ts)) (how_many is_live ts)
    go Live b g =
        subst (λ x. suc (how_many is_live ts) ≤ cond (stands_live x) (suc (how_many is_live ts))
        (how_many is_live ts)) (sym (g refl)) (omega arith)
    go Retired Live g = omega arith
    go Retired Retired g = omega arith
    go Retired Squashed g = omega arith
    go Squashed Live g = omega arith
    go Squashed Retired g = omega arith
    go Squashed Squashed g = omega arith
fewer t t' ts (y ∷ ys) f = go (is_live y) (fewer t t' ts ys f)
  where
    go : (b : Bool) → how_many is_live (ys ++ t' ∷ ts) ≤ how_many is_live (ys ++ t ∷ ts) →
        cond b (suc (how_many is_live (ys ++ t' ∷ ts))) (how_many is_live (ys ++ t' ∷ ts)) ≤ cond b (suc
        (how_many is_live (ys ++ t ∷ ts))) (how_many is_live (ys ++ t ∷ ts))
    go true h = omega arith
    go false h = h

placed_same : (C : Sizes) (t t' : Tenant) (ts ys : List Tenant) → t'.station ≡ t.station →
    on_path t' ≡ on_path t → ArePlaced C (ys ++ t ∷ ts) → ArePlaced C (ys ++ t' ∷ ts)
placed_same C t t' ts [] e f h = ((λ on. e ∙ h.0 (sym f ∙ on)), h.1)
placed_same C t t' ts (y ∷ ys) e f h = (
  (λ on. h.0 on ∙ sym (ap (λ n. n % C.ring) (how_many_same on_path t t' ts ys f))),
  placed_same C t t' ts ys e f h.1,
)

placed_end : (P : Program) (C : Sizes) (t t' : Tenant) (ts ys : List Tenant) → t.standing ≡ Live →
    on_path t' ≡ false → AllByRecursion IsNotLive ys → AreSettling (ys ++ t ∷ ts) → ArePlaced C (ys ++ t ∷ ts) →
    ArePlaced C (ys ++ t' ∷ ts)
placed_end P C t t' ts [] live off last s h = ((λ on. absurd (true≢false (sym on ∙ off))), h.1)
placed_end P C t t' ts (y ∷ ys) live off last s h =
    ((λ on. absurd (gone y.standing refl on)), placed_end P C t t' ts ys live off last.1 s.1 h.1)
  where
    gone : (st : Standing) → y.standing ≡ st → on_path y ≡ true → ⊥
    gone Live e on = last.0 e
    gone Squashed e on = true≢false (sym on ∙ ap stands_on_path e)
    gone Retired e on =
        subst (λ x. SettledBy x t.fate) live (all_mid IsSettled t ts ys (s.0 e))

apart_same : (t t' : Tenant) (ts ys : List Tenant) → t'.station ≡ t.station →
    (t'.standing ≡ Live → t.standing ≡ Live) → AreApart (ys ++ t ∷ ts) → AreApart (ys ++ t' ∷ ts)
apart_same t t' ts [] e f h = (all_from ts h.0, h.1)
  where
    all_from : (us : List Tenant) → AllByRecursion (IsElsewhere t) us → AllByRecursion (IsElsewhere t') us
    all_from [] q = tt
    all_from (u ∷ us) q = ((λ live same. q.0 live (same ∙ e)), all_from us q.1)
apart_same t t' ts (y ∷ ys) e f h = (
  all_grows (IsElsewhere y) t t' ts ys (λ q live same. q (f live) (sym e ∙ same)) h.0,
  apart_same t t' ts ys e f h.1,
)

stands_same : (C : Sizes) (t t' : Tenant) (ts ys : List Tenant) → t'.station ≡ t.station →
    t'.standing ≡ t.standing → Stands C (ys ++ t ∷ ts) → Stands C (ys ++ t' ∷ ts)
stands_same C t t' ts ys e f s =
    let less = fewer t t' ts ys (λ live. sym f ∙ live) in
    record {
      room = omega (arith, s.room);
      placed = placed_same C t t' ts ys e (ap stands_on_path f) s.placed;
      apart = apart_same t t' ts ys e (λ live. sym f ∙ live) s.apart;
    }

stands_retired : (C : Sizes) (t t' : Tenant) (ts ys : List Tenant) → t'.station ≡ t.station →
    t.standing ≡ Live → t'.standing ≡ Retired → Stands C (ys ++ t ∷ ts) → Stands C (ys ++ t' ∷ ts)
stands_retired C t t' ts ys e live off s =
    let less = fewer t t' ts ys (λ x. live) in
    record {
      room = omega (arith, s.room);
      placed = placed_same C t t' ts ys e (ap stands_on_path off ∙ sym (ap stands_on_path live)) s.placed;
      apart = apart_same t t' ts ys e (λ x. live) s.apart;
    }

stands_squashed : (P : Program) (C : Sizes) (t t' : Tenant) (ts ys : List Tenant) → t'.station ≡ t.station →
    t.standing ≡ Live → t'.standing ≡ Squashed → AllByRecursion IsNotLive ys → AreSettling (ys ++ t ∷ ts) →
    Stands C (ys ++ t ∷ ts) → Stands C (ys ++ t' ∷ ts)
stands_squashed P C t t' ts ys e live off last sound s =
    let less = fewer t t' ts ys (λ x. live) in
    record {
      room = omega (arith, s.room);
      placed = placed_end P C t t' ts ys live (ap stands_on_path off) last sound s.placed;
      apart = apart_same t t' ts ys e (λ x. live) s.apart;
    }

-- Any act

-- the station and standing of what a finish or a mend leaves
pub finished_station : (t : Tenant) (o : Outcome) →
    ((finished t o).station ≡ t.station) × ((finished t o).standing ≡ t.standing)
finished_station t (Value v) = (refl, refl)
finished_station t (Next v) = (refl, refl)
finished_station t (Address v) = (refl, refl)
finished_station t (Stops v) = (refl, refl)
finished_station t (Pair l h) = (refl, refl)

pub mended_station : (t : Tenant) (f : Fate) →
    ((mended_as t f).station ≡ t.station) × ((mended_as t f).standing ≡ t.standing)
mended_station t Open = (refl, refl)
mended_station t (Busy v) = (refl, refl)
mended_station t (Addr v) = (refl, refl)
mended_station t (Done v) = (refl, refl)
mended_station t (Guessed v) = (refl, refl)
mended_station t (Miss v) = (refl, refl)
mended_station t (Stopped v) = (refl, refl)

-- an act on a tenant, with the tenants ts before it, of which zs are recent
act_stands : (P : Program) (C : Sizes) (by : ℕ) (act : Act) (ys : List Tenant) (t : Tenant)
    (ts zs : List Tenant) → May P by act ys t ts → AreSettling (ys ++ t ∷ zs) → Stands C (ys ++ t ∷ zs) →
    Stands C (ys ++ changed P by act t ts ∷ zs)
act_stands P C by (Link First) ys t ts zs m so q = stands_same C t _ zs ys refl refl q
act_stands P C by (Link Second) ys t ts zs m so q = stands_same C t _ zs ys refl refl q
act_stands P C by (Deliver First) ys t ts zs m so q = stands_same C t _ zs ys refl refl q
act_stands P C by (Deliver Second) ys t ts zs m so q = stands_same C t _ zs ys refl refl q
act_stands P C by Claim ys t ts zs m so q = stands_same C t _ zs ys refl refl q
act_stands P C by Finish ys t ts zs m so q =
    let e = finished_station t (computed P t) in stands_same C t _ zs ys e.0 e.1 q
act_stands P C by Load ys t ts zs m so q = stands_same C t _ zs ys refl refl q
act_stands P C by (Retire n) ys t ts zs m so q = stands_retired C t _ zs ys refl m.live refl q
act_stands P C by Squash ys t ts zs m so q = stands_squashed P C t _ zs ys refl m.live refl m.youngest so q
act_stands P C by (Speculate (Guess v)) ys t ts zs m so q = stands_same C t _ zs ys refl refl q
act_stands P C by (Speculate Confirm) ys t ts zs m so q = stands_same C t _ zs ys refl refl q
act_stands P C by (Speculate Flush) ys t ts zs m so q = stands_squashed P C t _ zs ys refl m.live refl m.youngest so q
act_stands P C by Mend ys t ts zs m so q = let e = mended_station t t.fate in stands_same C t _ zs ys e.0 e.1 q

stands_kept : (P : Program) (C : Sizes) (U : UpdateUnit) (by : ℕ) (s : Step) → Allowed P C U by s →
    IsSound P U.tenants → Stands C (recent U) → Stands C (recent (applied P C U by s))
stands_kept P C U by (Let index predicted first second) a s st =
    let few = fewer_newest is_live U.fresh U.tenants in
    let_stands P C (recent U) (new_tenant P C U index predicted first second) refl refl (omega (arith, few, a.room))
    (settling_newest U.fresh U.tenants (settling P U.tenants s)) st
stands_kept P C U by (On p act) a s st =
    let ts = U.tenants in
    let t = a.tenant in
    let t' = changed P by act t (older ts p) in
    let was = subst (λ z. Stands C (newest_of U.fresh z)) (split_at ts p t a.is) st in
    let so = subst (λ z. AreSettling (newest_of U.fresh z)) (split_at ts p t a.is) (settling_newest U.fresh ts (settling P ts s)) in
    subst (λ z. Stands C (newest_of U.fresh z)) (sym (parts P ts by p act t a.is))
    (⊎_elim
    (λ (old : IsOldPlace U.fresh (younger ts p) (older ts p)). subst (Stands C) (old.same t t') was)
    (λ (new : IsNewPlace U.fresh (younger ts p) (older ts p)). subst (Stands C) (sym (new.is t'))
    (act_stands P C by act (younger ts p) t (older ts p) new.zs a.may (subst AreSettling (new.is t) so) (subst (Stands C) (new.is t) was)))
    (cut U.fresh (younger ts p) (older ts p)))
stands_kept P C U by Renew a s st = record { room = omega arith; placed = tt; apart = tt }

pub stands : (P : Program) (C : Sizes) (ss : List Taken) → AreAllowed P C ss →
    Stands C (recent (reached P C ss))
stands P C [] a = record { room = omega arith; placed = tt; apart = tt }
stands P C (s ∷ ss) a = stands_kept P C (reached P C ss) s.by s.step a.1 (sound P C ss a.0) (stands P C ss a.0)

-- Read at a position

placed_at : (C : Sizes) (U : List Tenant) (p : ℕ) (t : Tenant) → ArePlaced C U → at U p ≡ Some t →
    on_path t ≡ true → t.station ≡ how_many on_path (older U p) % C.ring
placed_at C U p t h e on = mid (younger U p) (subst (ArePlaced C) (split_at U p t e) h)
  where
    mid : (ys : List Tenant) → ArePlaced C (ys ++ t ∷ older U p) →
        t.station ≡ how_many on_path (older U p) % C.ring
    mid [] q = q.0 on
    mid (y ∷ ys) q = mid ys q.1

pub last_at : (U : List Tenant) (p : ℕ) (t : Tenant) → AreApart U → at U p ≡ Some t → t.standing ≡ Live →
    AllByRecursion (λ u. u.station ≢ t.station) (younger U p)
last_at U p t h e live = mid (younger U p) (subst AreApart (split_at U p t e) h)
  where
    mid : (ys : List Tenant) → AreApart (ys ++ t ∷ older U p) → AllByRecursion (λ u. u.station ≢ t.station) ys
    mid [] q = tt
    mid (y ∷ ys) q = ((λ same. all_mid (IsElsewhere y) t (older U p) ys q.0 live (sym same)), mid ys q.1)

pub is_ring : (C : Sizes) (U : List Tenant) → Stands C U → FitsRing C U
is_ring C U s =
    record {
      room = s.room;
      place = λ p t e on. placed_at C U p t s.placed e on;
      last = λ p t e live. last_at U p t s.apart e live;
    }

-- nobody who was let before the last renewal is live

act_gone : (P : Program) (by : ℕ) (act : Act) (ys : List Tenant) (t : Tenant) (ts : List Tenant) →
    May P by act ys t ts → IsNotLive t → IsNotLive (changed P by act t ts)
act_gone P by (Link First) ys t ts m n = n
act_gone P by (Link Second) ys t ts m n = n
act_gone P by (Deliver First) ys t ts m n = n
act_gone P by (Deliver Second) ys t ts m n = n
act_gone P by Claim ys t ts m n = absurd (n m.live)
act_gone P by Finish ys t ts m n = absurd (n m.live)
act_gone P by Load ys t ts m n = absurd (n m.live)
act_gone P by (Retire k) ys t ts m n = absurd (n m.live)
act_gone P by Squash ys t ts m n = absurd (n m.live)
act_gone P by (Speculate s) ys t ts m n = absurd (n (speculates_live P s ys t ts m))
act_gone P by Mend ys t ts m n = absurd (n m.live)

abbrev pub OldGone : UpdateUnit → Type 0
OldGone U = AllByRecursion IsNotLive (passed U.fresh U.tenants)

gone_kept : (P : Program) (C : Sizes) (U : UpdateUnit) (by : ℕ) (s : Step) → Allowed P C U by s →
    OldGone U → OldGone (applied P C U by s)
gone_kept P C U by (Let index predicted first second) a h = h
gone_kept P C U by (On p act) a h =
    let ts = U.tenants in
    let t = a.tenant in
    let t' = changed P by act t (older ts p) in
    let was = subst (λ z. AllByRecursion IsNotLive (passed U.fresh z)) (split_at ts p t a.is) h in
    subst (λ z. AllByRecursion IsNotLive (passed U.fresh z)) (sym (parts P ts by p act t a.is))
    (⊎_elim
    (λ (old : IsOldPlace U.fresh (younger ts p) (older ts p)). old.other t t' (act_gone P by act (younger ts p) t (older ts p) a.may (old.gone t was)) was)
    (λ (new : IsNewPlace U.fresh (younger ts p) (older ts p)). subst (AllByRecursion IsNotLive) (new.same t t') was)
    (cut U.fresh (younger ts p) (older ts p)))
gone_kept P C U by Renew a h = a.none

pub old_gone : (P : Program) (C : Sizes) (ss : List Taken) → AreAllowed P C ss → OldGone (reached P C ss)
old_gone P C [] a = tt
old_gone P C (s ∷ ss) a = gone_kept P C (reached P C ss) s.by s.step a.1 (old_gone P C ss a.0)
