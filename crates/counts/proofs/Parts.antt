-- Parts of a whole: what a cut and a join keep.
use Rattle.std.proofs.Common.{◌≡◌, ℕ, zero, suc, ◌+◌, ◌-◌, ◌*◌, ◌^◌, ◌<◌, ◌≤◌, max, sym, refl, ap, ◌∙◌, arith, pow_pos, pow-add, mul_assoc, add-mul, mul-pos}
use Rattle.counts.specs.declared.shares.Share.{Share}
use Rattle.counts.specs.Rule.{weight}
use Rattle.counts.specs.Shares.{kept_half, joined_of, nothing, given_half}

-- two shares that are one share cut in two
pub record IsCut (s l r : Share) : Type 0 where
  pub added : l.added + r.added ≡ s.added
  pub deep_left : (depth : ℕ) → s.halvings ≤ depth → l.halvings ≤ depth + 1
  pub deep_right : (depth : ℕ) → s.halvings ≤ depth → r.halvings ≤ depth + 1
  pub weighs : (depth : ℕ) → s.halvings ≤ depth → weight (depth + 1) l + weight (depth + 1) r ≡ 2 * weight depth s
  pub idle_left : l.parts ≡ 0 → (s.parts ≡ 0 → s.added ≡ 0) → l.added ≡ 0
  pub idle_right : r.parts ≡ 0 → r.added ≡ 0

pub next_power : (n : ℕ) → 2 ^ (n + 1) ≡ 2 * 2 ^ n
next_power n = let next : n + 1 ≡ suc n = omega arith in ap (λ m. 2 ^ m) next ∙ omega arith

-- a whole that is halved once more has twice as many parts
pub twice : (depth : ℕ) (s : Share) → s.halvings ≤ depth → weight (depth + 1) s ≡ 2 * weight depth s
twice depth s low =
    let more : depth + 1 - s.halvings ≡ suc (depth - s.halvings) = omega arith in
    let power : 2 ^ (depth + 1 - s.halvings) ≡ 2 * 2 ^ (depth - s.halvings) = ap (λ n. 2 ^ n) more ∙ omega arith in
    ap (λ n. s.parts * n) power ∙ grind arith

half : (depth : ℕ) (s : Share) (added : ℕ) → weight (depth + 1) (record { added = added; parts = s.parts; halvings = s.halvings + 1 }) ≡ weight depth s
half depth s added = ap (λ n. s.parts * 2 ^ n) (omega arith)

pub halves : (s : Share) → IsCut s (kept_half s) (given_half s)
halves s =
    record {
      added = omega arith;
      deep_left = λ depth low. omega arith;
      deep_right = λ depth low. omega arith;
      weighs = λ depth low. (let one = half depth s s.added in let other = half depth s 0 in omega (arith, one, other));
      idle_left = λ none idle. idle none;
      idle_right = λ none. refl;
    }

pub whole : (s : Share) → IsCut s s nothing
whole s =
    record {
      added = omega arith;
      deep_left = λ depth low. omega arith;
      deep_right = λ depth low. omega arith;
      weighs = λ depth low. (let all = twice depth s low in omega (arith, all));
      idle_left = λ none idle. idle none;
      idle_right = λ none. refl;
    }

-- parts of a part
deeper : (depth most few parts : ℕ) → few ≤ most → most ≤ depth → parts * 2 ^ (most - few) * 2 ^ (depth - most) ≡ parts * 2 ^ (depth - few)
deeper depth most few parts low high =
    let sum : (most - few) + (depth - most) ≡ depth - few = omega arith in
    mul_assoc parts (2 ^ (most - few)) (2 ^ (depth - most)) ∙ ap (λ n. parts * n) (sym (pow-add 2 (most - few) (depth - most)) ∙ ap (λ n. 2 ^ n) sum)

-- a join has the parts of both
pub joins : (depth : ℕ) (s t : Share) → s.halvings ≤ depth → t.halvings ≤ depth → weight depth (joined_of s t) ≡ weight depth s + weight depth t
joins depth s t low high =
    let most = max s.halvings t.halvings in
    let one = deeper depth most s.halvings s.parts (omega arith) (omega arith) in
    let other = deeper depth most t.halvings t.parts (omega arith) (omega arith) in
    add-mul (s.parts * 2 ^ (most - s.halvings)) (t.parts * 2 ^ (most - t.halvings)) (2 ^ (depth - most)) ∙ omega (arith, one, other)

no_factor : (a k : ℕ) → a * 2 ^ k ≡ 0 → a ≡ 0
no_factor zero k none = refl
no_factor (suc a) k none = let some : 0 < suc a * 2 ^ k = mul-pos (omega arith) (pow_pos k) in absurd (omega arith)

pub joins_idle : (s t : Share) → (s.parts ≡ 0 → s.added ≡ 0) → (t.parts ≡ 0 → t.added ≡ 0) → (joined_of s t).parts ≡ 0 → (joined_of s t).added ≡ 0
joins_idle s t idle other none =
    let most = max s.halvings t.halvings in
    let one = idle (no_factor s.parts (most - s.halvings) (omega arith)) in
    let two = other (no_factor t.parts (most - t.halvings) (omega arith)) in
    omega arith

pub joins_some : (s t : Share) → 0 < s.parts → 0 < (joined_of s t).parts
joins_some s t some =
    let most = max s.halvings t.halvings in
    let one : 0 < s.parts * 2 ^ (most - s.halvings) = mul-pos some (pow_pos (most - s.halvings)) in
    omega arith

-- a share without weight has no part
pub no_weight : (depth : ℕ) (s : Share) → weight depth s ≡ 0 → s.parts ≡ 0
no_weight depth s none = no_factor s.parts (depth - s.halvings) none

-- a share of all parts has all the weight
pub all_weight : (depth : ℕ) (s : Share) → s.halvings ≤ depth → s.parts ≡ 2 ^ s.halvings → weight depth s ≡ 2 ^ depth
all_weight depth s low all =
    let sum : s.halvings + (depth - s.halvings) ≡ depth = omega arith in
    ap (λ n. n * 2 ^ (depth - s.halvings)) all ∙ sym (pow-add 2 s.halvings (depth - s.halvings)) ∙ ap (λ n. 2 ^ n) sum
