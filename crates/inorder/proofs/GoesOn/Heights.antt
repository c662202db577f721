-- The number of the live tenants up to the first miss: what changes it, and how high it can be.
use Rattle.std.proofs.Common.{◌≡◌, ◌≢◌, ℕ, zero, suc, ◌+◌, ◌-◌, ◌*◌, ◌^◌, ◌<◌, ◌≤◌, Bool, true, false, cond, not, ◌&&◌, eqb, List, [], ◌∷◌, ◌++◌, length, Some, refl, sym, ap, ◌∙◌, subst, arith, mul-le-mul_right, suc-mul}
use Rattle.std.proofs.Math.Nat.{pow-succ'}
use Rattle.std.specs.List.{AllByRecursion}
use Rattle.inorder.specs.Climbing.{digit_of, has_miss, height, misses_by}
use Rattle.inorder.specs.Progress.{fate_work, source_work, standing_work, tenant_work}
use Rattle.inorder.specs.Tenants.{Fate, IsNotLive, Live, Miss, Retired, Squashed, Standing, Tenant, is_live, stands_live}
use Rattle.inorder.specs.Unit.{Sizes, at, how_many}
use Rattle.inorder.proofs.GoesOn.Letting.{off}
use Rattle.inorder.proofs.GoesOn.Work.{some_work}

-- The first tenant of a list

live_if : (t : Tenant) (ts : List Tenant) (a : Bool) → is_live t ≡ a → how_many is_live (t ∷ ts) ≡ cond a (suc (how_many is_live ts)) (how_many is_live ts)
live_if t ts a e = ap (λ b. cond b (suc (how_many is_live ts)) (how_many is_live ts)) e

height_if : (C : Sizes) (t : Tenant) (ts : List Tenant) (a m : Bool) → is_live t ≡ a → has_miss ts ≡ m →
    height C (t ∷ ts) ≡ cond (a && not m) (digit_of C ts t + height C ts) (height C ts)
height_if C t ts a m e f =
    ap (λ x. cond (x && not (has_miss ts)) (digit_of C ts t + height C ts) (height C ts)) e
    ∙ ap (λ x. cond (a && not x) (digit_of C ts t + height C ts) (height C ts)) f

miss_if : (t : Tenant) (ts : List Tenant) (a : Bool) → misses_by t.standing t.fate ≡ a → has_miss (t ∷ ts) ≡ cond a true (has_miss ts)
miss_if t ts a e = ap (λ x. cond x true (has_miss ts)) e

live_work_by : (st : Standing) (f : Fate) (k : ℕ) → stands_live st ≡ true → 1 ≤ standing_work st f + k
live_work_by Live f k e = let some = some_work f in omega (arith, some)
live_work_by Retired f k e = absurd (cc e)
live_work_by Squashed f k e = absurd (cc e)

live_work : (t : Tenant) → is_live t ≡ true → 1 ≤ tenant_work t
live_work t e = live_work_by t.standing t.fate (source_work t.first.way t.first.value + source_work t.second.way t.second.value) e

-- Powers of ten

ten : (k : ℕ) → 10 ^ suc k ≡ 10 * 10 ^ k
ten k = pow-succ' 10 k

ten_some : (k : ℕ) → 1 ≤ 10 ^ k
ten_some zero = omega arith
ten_some (suc k) = let more = ten k in let some = ten_some k in omega (arith, more, some)

place : (ring n : ℕ) → suc n ≤ ring → 10 ^ (ring - n) ≡ 10 * 10 ^ (ring - suc n)
place ring n h = let same : ring - n ≡ suc (ring - suc n) = omega (arith, h) in ap (λ k. 10 ^ k) same ∙ ten (ring - suc n)

nine : (d X : ℕ) → d ≤ 9 → d * X + X ≤ 10 * X
nine d X h = let m = mul-le-mul_right X h in omega (arith, m)

one_more : (d e X : ℕ) → suc d ≤ e → d * X + X ≤ e * X
one_more d e X h = let m = mul-le-mul_right X h in let s = suc-mul d X in omega (arith, m, s)

at_least : (d X : ℕ) → 1 ≤ d → 1 ≤ X → 1 ≤ d * X
at_least d X h x = let m = mul-le-mul_right X h in omega (arith, m, x)

-- After a miss, and those that have left

miss_more : (y : Tenant) (ts : List Tenant) (a : Bool) → misses_by y.standing y.fate ≡ a → has_miss ts ≡ true → has_miss (y ∷ ts) ≡ true
miss_more y ts true e h = miss_if y ts true e
miss_more y ts false e h = miss_if y ts false e ∙ h

miss_stays : (ys ts : List Tenant) → has_miss ts ≡ true → has_miss (ys ++ ts) ≡ true
miss_stays [] ts h = h
miss_stays (y ∷ ys) ts h = miss_more y (ys ++ ts) (misses_by y.standing y.fate) refl (miss_stays ys ts h)

counts_nothing : (C : Sizes) (y : Tenant) (ts : List Tenant) (a : Bool) → is_live y ≡ a → has_miss ts ≡ true → height C (y ∷ ts) ≡ height C ts
counts_nothing C y ts true e h = height_if C y ts true true e h
counts_nothing C y ts false e h = height_if C y ts false true e h

pub behind_miss : (C : Sizes) (ys ts : List Tenant) → has_miss ts ≡ true → height C (ys ++ ts) ≡ height C ts
behind_miss C [] ts h = refl
behind_miss C (y ∷ ys) ts h = counts_nothing C y (ys ++ ts) (is_live y) refl (miss_stays ys ts h) ∙ behind_miss C ys ts h

-- a tenant after a miss may be any
pub any_behind_miss : (C : Sizes) (ys : List Tenant) (t : Tenant) (ts : List Tenant) → has_miss ts ≡ true → height C (ys ++ t ∷ ts) ≡ height C ts
any_behind_miss C ys t ts h =
    behind_miss C ys (t ∷ ts) (miss_more t ts (misses_by t.standing t.fate) refl h)
    ∙ counts_nothing C t ts (is_live t) refl h

pub has_that_miss : (ts : List Tenant) (p x : ℕ) (t : Tenant) → at ts p ≡ Some t → t.standing ≡ Live → t.fate ≡ Miss x → has_miss ts ≡ true
has_that_miss [] p x t is live fate = absurd (cc is)
has_that_miss (u ∷ us) p x t is live fate = go (eqb p (length us)) refl (has_that_miss us p x t)
  where
    go : (b : Bool) → eqb p (length us) ≡ b → (at us p ≡ Some t → t.standing ≡ Live → t.fate ≡ Miss x → has_miss us ≡ true) → has_miss (u ∷ us) ≡ true
    go true e more =
        let both : Some u ≡ Some t = sym (ap (λ b. cond b (Some u) (at us p)) e) ∙ is in
        let same : u ≡ t = cc both in
        miss_if u us true (ap (λ z. misses_by z.standing z.fate) same ∙ (ap (λ z. misses_by z t.fate) live ∙ ap (misses_by Live) fate))
    go false e more = miss_more u us (misses_by u.standing u.fate) refl (more (sym (ap (λ b. cond b (Some u) (at us p)) e) ∙ is) live fate)

pub behind_left : (C : Sizes) (ys ts : List Tenant) → AllByRecursion IsNotLive ys → height C (ys ++ ts) ≡ height C ts
behind_left C [] ts h = refl
behind_left C (y ∷ ys) ts h = height_if C y (ys ++ ts) false (has_miss (ys ++ ts)) (off y.standing h.0) refl ∙ behind_left C ys ts h.1

-- How high it can be

above_one : (C : Sizes) (y : Tenant) (ts : List Tenant) (a m : Bool) → is_live y ≡ a → has_miss ts ≡ m → how_many is_live (y ∷ ts) ≤ C.ring →
    height C (y ∷ ts) + 10 ^ (C.ring - how_many is_live (y ∷ ts)) ≤ height C ts + 10 ^ (C.ring - how_many is_live ts)
above_one C y ts false m e f h =
    let power = ap (λ k. 10 ^ (C.ring - k)) (live_if y ts false e) in
    let same = height_if C y ts false m e f in
    omega (arith, power, same)
above_one C y ts true true e f h =
    let count = live_if y ts true e in
    let power = ap (λ k. 10 ^ (C.ring - k)) count in
    let same = height_if C y ts true true e f in
    let next = place C.ring (how_many is_live ts) (omega (arith, count, h)) in
    omega (arith, power, same, next)
above_one C y ts true false e f h =
    let count = live_if y ts true e in
    let power = ap (λ k. 10 ^ (C.ring - k)) count in
    let same = height_if C y ts true false e f in
    let next = place C.ring (how_many is_live ts) (omega (arith, count, h)) in
    let some = live_work y e in
    let digit = nine (10 - tenant_work y) (10 ^ (C.ring - suc (how_many is_live ts))) (omega (arith, some)) in
    omega (arith, power, same, next, digit)

fewer : (y : Tenant) (ts : List Tenant) (a : Bool) → is_live y ≡ a → how_many is_live ts ≤ how_many is_live (y ∷ ts)
fewer y ts true e = let count = live_if y ts true e in omega (arith, count)
fewer y ts false e = let count = live_if y ts false e in omega (arith, count)

-- the tenants after ts count less than one more in the last place of ts
pub above : (C : Sizes) (ys ts : List Tenant) → how_many is_live (ys ++ ts) ≤ C.ring →
    height C (ys ++ ts) + 10 ^ (C.ring - how_many is_live (ys ++ ts)) ≤ height C ts + 10 ^ (C.ring - how_many is_live ts)
above C [] ts h = omega arith
above C (y ∷ ys) ts h =
    let few = fewer y (ys ++ ts) (is_live y) refl in
    let one = above_one C y (ys ++ ts) (is_live y) (has_miss (ys ++ ts)) refl refl h in
    let rest = above C ys ts (omega (arith, few, h)) in
    omega (arith, one, rest)

all_above : (C : Sizes) (ts : List Tenant) → how_many is_live ts ≤ C.ring → height C ts + 10 ^ (C.ring - how_many is_live ts) ≤ 10 ^ C.ring
all_above C [] h =
    let all : C.ring - 0 ≡ C.ring = omega arith in
    let power = ap (λ k. 10 ^ k) all in
    omega (arith, power)
all_above C (t ∷ ts) h =
    let few = fewer t ts (is_live t) refl in
    let one = above_one C t ts (is_live t) (has_miss ts) refl refl h in
    let rest = all_above C ts (omega (arith, few, h)) in
    omega (arith, one, rest)

pub below_all : (C : Sizes) (ts : List Tenant) → how_many is_live ts ≤ C.ring → height C ts < 10 ^ C.ring
below_all C ts h = let all = all_above C ts h in let some = ten_some (C.ring - how_many is_live ts) in omega (arith, all, some)

-- A tenant with less work

rises_by : (C : Sizes) (t t' : Tenant) (ts : List Tenant) (a m : Bool) → is_live t ≡ a → is_live t' ≡ a → has_miss ts ≡ m → tenant_work t' ≤ tenant_work t →
    height C (t ∷ ts) ≤ height C (t' ∷ ts)
rises_by C t t' ts false m e e' f h = let one = height_if C t ts false m e f in let two = height_if C t' ts false m e' f in omega (arith, one, two)
rises_by C t t' ts true true e e' f h = let one = height_if C t ts true true e f in let two = height_if C t' ts true true e' f in omega (arith, one, two)
rises_by C t t' ts true false e e' f h =
    let one = height_if C t ts true false e f in
    let two = height_if C t' ts true false e' f in
    let less : 10 - tenant_work t ≤ 10 - tenant_work t' = omega (arith, h) in
    let digits = mul-le-mul_right (10 ^ (C.ring - suc (how_many is_live ts))) less in
    omega (arith, one, two, digits)

pub rises : (C : Sizes) (t t' : Tenant) (ts : List Tenant) → is_live t' ≡ is_live t → tenant_work t' ≤ tenant_work t → height C (t ∷ ts) ≤ height C (t' ∷ ts)
rises C t t' ts e h = rises_by C t t' ts (is_live t) (has_miss ts) refl e refl h

-- the same tenant after lists of the same height or more
over_by : (C : Sizes) (y : Tenant) (zs zs' : List Tenant) (a m : Bool) → is_live y ≡ a → has_miss zs ≡ m → has_miss zs' ≡ m → how_many is_live zs' ≡ how_many is_live zs →
    height C zs ≤ height C zs' → height C (y ∷ zs) ≤ height C (y ∷ zs')
over_by C y zs zs' false m e f f' n h = let one = height_if C y zs false m e f in let two = height_if C y zs' false m e f' in omega (arith, one, two, h)
over_by C y zs zs' true true e f f' n h = let one = height_if C y zs true true e f in let two = height_if C y zs' true true e f' in omega (arith, one, two, h)
over_by C y zs zs' true false e f f' n h =
    let one = height_if C y zs true false e f in
    let two = height_if C y zs' true false e f' in
    let same : digit_of C zs' y ≡ digit_of C zs y = ap (λ k. (10 - tenant_work y) * 10 ^ (C.ring - suc k)) n in
    omega (arith, one, two, same, h)

same_count : (t t' : Tenant) (ts ys : List Tenant) → is_live t' ≡ is_live t → how_many is_live (ys ++ t' ∷ ts) ≡ how_many is_live (ys ++ t ∷ ts)
same_count t t' ts [] e = ap (λ b. cond b (suc (how_many is_live ts)) (how_many is_live ts)) e
same_count t t' ts (y ∷ ys) e = ap (λ n. cond (is_live y) (suc n) n) (same_count t t' ts ys e)

same_miss : (t t' : Tenant) (ts ys : List Tenant) → misses_by t'.standing t'.fate ≡ misses_by t.standing t.fate → has_miss (ys ++ t' ∷ ts) ≡ has_miss (ys ++ t ∷ ts)
same_miss t t' ts [] e = ap (λ b. cond b true (has_miss ts)) e
same_miss t t' ts (y ∷ ys) e = ap (λ b. cond (misses_by y.standing y.fate) true b) (same_miss t t' ts ys e)

pub rises_among : (C : Sizes) (t t' : Tenant) (ts ys : List Tenant) → is_live t' ≡ is_live t → misses_by t'.standing t'.fate ≡ misses_by t.standing t.fate →
    tenant_work t' ≤ tenant_work t → height C (ys ++ t ∷ ts) ≤ height C (ys ++ t' ∷ ts)
rises_among C t t' ts [] e m h = rises C t t' ts e h
rises_among C t t' ts (y ∷ ys) e m h =
    over_by C y (ys ++ t ∷ ts) (ys ++ t' ∷ ts) (is_live y) (has_miss (ys ++ t ∷ ts)) refl refl (same_miss t t' ts ys m) (same_count t t' ts ys e) (rises_among C t t' ts ys e m h)

-- A tenant that becomes a miss: what is after it counts no more, and it counts more itself
misses_with : (C : Sizes) (t t' : Tenant) (ts ys : List Tenant) (m : Bool) → has_miss ts ≡ m → is_live t ≡ true → is_live t' ≡ true → misses_by t'.standing t'.fate ≡ true →
    tenant_work t' < tenant_work t → tenant_work t ≤ 9 → how_many is_live (ys ++ t ∷ ts) ≤ C.ring → height C (ys ++ t ∷ ts) ≤ height C (ys ++ t' ∷ ts)
misses_with C t t' ts ys true f live live' miss less most room =
    let one = any_behind_miss C ys t ts f in let two = any_behind_miss C ys t' ts f in omega (arith, one, two)
misses_with C t t' ts ys false f live live' miss less most room =
    let now = behind_miss C ys (t' ∷ ts) (miss_if t' ts true miss) in
    let two = height_if C t' ts true false live' f in
    let one = height_if C t ts true false live f in
    let was = above C ys (t ∷ ts) room in
    let count = ap (λ k. 10 ^ (C.ring - k)) (live_if t ts true live) in
    let digits = one_more (10 - tenant_work t) (10 - tenant_work t') (10 ^ (C.ring - suc (how_many is_live ts))) (omega (arith, less, most)) in
    omega (arith, now, two, one, was, count, digits)

pub misses_among : (C : Sizes) (t t' : Tenant) (ts ys : List Tenant) → is_live t ≡ true → is_live t' ≡ true → misses_by t'.standing t'.fate ≡ true →
    tenant_work t' < tenant_work t → tenant_work t ≤ 9 → how_many is_live (ys ++ t ∷ ts) ≤ C.ring → height C (ys ++ t ∷ ts) ≤ height C (ys ++ t' ∷ ts)
misses_among C t t' ts ys live live' miss less most room = misses_with C t t' ts ys (has_miss ts) refl live live' miss less most room

-- One more tenant
pub joins : (C : Sizes) (t : Tenant) (ts : List Tenant) → is_live t ≡ true → has_miss ts ≡ false → tenant_work t ≤ 9 → height C ts < height C (t ∷ ts)
joins C t ts live none most =
    let one = height_if C t ts true false live none in
    let some = at_least (10 - tenant_work t) (10 ^ (C.ring - suc (how_many is_live ts))) (omega (arith, most)) (ten_some (C.ring - suc (how_many is_live ts))) in
    omega (arith, one, some)
