-- Bytes of numbers, and numbers in bytes.
use Rattle.std.proofs.Common.{◌≡◌, ℕ, zero, suc, ◌+◌, ◌-◌, ◌*◌, ◌/◌, ◌%◌, ◌^◌, ◌<◌, ◌≤◌, Option, Some, refl, sym, ap, ◌∙◌, subst, arith, add-zero}
use Rattle.std.proofs.Math.Nat.{pow-succ', pow-suc, pow-zero, div-one, div-div-eq-div-mul}
use Rattle.std.proofs.lemmas.Nat.{pow-add}
use Rattle.std.proofs.Math.Arith.{mod-mul}
use Rattle.lsq.specs.Bytes.{byte_of, little_endian, joined, little_endian_if_there}

-- a power of 256 is a power of 2
pub bytes_of_bits : (k : ℕ) → 2 ^ (8 * k) ≡ 256 ^ k
bytes_of_bits zero = refl
bytes_of_bits (suc k) =
    let e : 8 * suc k ≡ 8 + 8 * k = omega arith in
    ap (λ (n : ℕ). 2 ^ n) e ∙ pow-add 2 8 (8 * k) ∙ ap (λ (n : ℕ). 256 * n) (bytes_of_bits k) ∙ sym (pow-succ' 256 k)

-- byte k + j is byte j of what stands from byte k on
pub byte_of-from : (k j n d : ℕ) → n ≡ k + j → byte_of n d ≡ byte_of j (d / 256 ^ k)
byte_of-from zero j n d e =
    let same : n ≡ j = omega arith in ap (λ (m : ℕ). byte_of m d) same
    ∙ ap (byte_of j) (sym (ap (λ (m : ℕ). d / m) (pow-zero 256) ∙ div-one d))
byte_of-from (suc k) j zero d e = absurd (omega arith)
byte_of-from (suc k) j (suc n) d e =
    byte_of-from k j n (d / 256) (omega arith)
    ∙ ap (byte_of j) (div-div-eq-div-mul d 256 (256 ^ k) ∙ ap (λ (m : ℕ). d / m) (sym (pow-succ' 256 k)))

pub byte_of-fits : (k d : ℕ) → byte_of k d < 256
byte_of-fits zero d = omega arith
byte_of-fits (suc k) d = byte_of-fits k (d / 256)

pow_fits : (w : ℕ) → 0 < 256 ^ w
pow_fits zero = omega arith
pow_fits (suc w) = let p = pow_fits w in let e = pow-succ' 256 w in omega (arith, e)

-- a fact at the next address
shifted : (P : ℕ → Type 0) (a k : ℕ) → P (a + suc k) → P (a + 1 + k)
shifted P a k p = let n : a + suc k ≡ a + 1 + k = omega arith in subst P n p

-- one more byte below
mod_step : (d w : ℕ) → d % 256 + 256 * (d / 256 % 256 ^ w) ≡ d % 256 ^ suc w
mod_step d w =
    let e = mod-mul d {m = 256 ^ w} {c = 256} (pow_fits w) (omega arith) in
    let s : 256 ^ suc w ≡ 256 ^ w * 256 = pow-suc 256 w in
    let c : d / 256 % 256 ^ w * 256 + d % 256 ≡ d % 256 + 256 * (d / 256 % 256 ^ w) = omega arith in
    sym (ap (λ (m : ℕ). d % m) s ∙ e ∙ c)

-- the number in the bytes of a number
pub little_endian-bytes : (f : ℕ → ℕ) (a w d : ℕ) → ((j : ℕ) → f (a + j) ≡ byte_of j d)
    → little_endian f a w ≡ d % 256 ^ w
little_endian-bytes f a zero d h = omega arith
little_endian-bytes f a (suc w) d h =
    let first : f a ≡ d % 256 = ap f (sym (add-zero a)) ∙ h 0 in
    let next : (j : ℕ) → f (a + 1 + j) ≡ byte_of j (d / 256) =
    λ j. let n : a + 1 + j ≡ a + suc j = omega arith in ap f n
    ∙ h (suc j) in
    let rest : little_endian f (a + 1) w ≡ d / 256 % 256 ^ w = little_endian-bytes f (a + 1) w (d / 256) next in
    ap (λ (x : ℕ). x + 256 * little_endian f (a + 1) w) first ∙ ap (λ (x : ℕ). d % 256 + 256 * x) rest ∙ mod_step d w

-- a number is below a power of 256 where each byte is below 256
pub little_endian-fits : (f : ℕ → ℕ) (a w : ℕ) → ((x : ℕ) → f x < 256) → little_endian f a w < 256 ^ w
little_endian-fits f a zero h = omega arith
little_endian-fits f a (suc w) h =
    let e = pow-succ' 256 w in
    let low : f a < 256 = h a in
    let rest = little_endian-fits f (a + 1) w h in
    omega (arith, e)

-- byte k of the number in some bytes
pub byte_of-little_endian : (f : ℕ → ℕ) (a w k : ℕ) → ((x : ℕ) → f x < 256) → k < w
    → byte_of k (little_endian f a w) ≡ f (a + k)
byte_of-little_endian f a zero k h l = absurd (omega arith)
byte_of-little_endian f a (suc w) zero h l =
    let low : f a < 256 = h a in
    let here : (f a + 256 * little_endian f (a + 1) w) % 256 ≡ f a = omega arith in
    here ∙ ap f (sym (add-zero a))
byte_of-little_endian f a (suc w) (suc k) h l =
    let low : f a < 256 = h a in
    let rest : (f a + 256 * little_endian f (a + 1) w) / 256 ≡ little_endian f (a + 1) w = omega arith in
    let n : a + 1 + k ≡ a + suc k = omega arith in
    ap (byte_of k) rest ∙ byte_of-little_endian f (a + 1) w k h (omega arith) ∙ ap f n

-- bytes that are there
pub if_there-some : (g : ℕ → Option ℕ) (f : ℕ → ℕ) (a w : ℕ) → ((k : ℕ) → k < w → g (a + k) ≡ Some (f (a + k)))
    → little_endian_if_there g a w ≡ Some (little_endian f a w)
if_there-some g f a zero h = refl
if_there-some g f a (suc w) h =
    let first : g a ≡ Some (f a) = subst (λ (x : ℕ). g x ≡ Some (f x)) (add-zero a) (h 0 (omega arith)) in
    let rest = if_there-some g f (a + 1) w (λ k l. shifted (λ x. g x ≡ Some (f x)) a k (h (suc k) (omega arith))) in
    ap (λ (o : Option ℕ). joined o (little_endian_if_there g (a + 1) w)) first ∙ ap (joined (Some (f a))) rest

-- the same bytes make the same number
pub if_there-same : (g h : ℕ → Option ℕ) (a w : ℕ) → ((k : ℕ) → k < w → g (a + k) ≡ h (a + k))
    → little_endian_if_there g a w ≡ little_endian_if_there h a w
if_there-same g h a zero s = refl
if_there-same g h a (suc w) s =
    let first : g a ≡ h a = subst (λ (x : ℕ). g x ≡ h x) (add-zero a) (s 0 (omega arith)) in
    let rest = if_there-same g h (a + 1) w (λ k l. shifted (λ x. g x ≡ h x) a k (s (suc k) (omega arith))) in
    ap (λ (o : Option ℕ). joined o (little_endian_if_there g (a + 1) w)) first ∙ ap (joined (h a)) rest

-- the low bytes of what stands from the load's address on, as the code takes them from a store
pub little_endian-from : (b a w d : ℕ) → b ≤ a
    → little_endian (λ x. byte_of (x - b) d) a w ≡ d / 2 ^ (8 * (a - b)) % 256 ^ w
little_endian-from b a w d h =
    little_endian-bytes (λ x. byte_of (x - b) d) a w (d / 2 ^ (8 * (a - b))) (λ j.
    let n : a + j - b ≡ a - b + j = omega arith in
    byte_of-from (a - b) j (a + j - b) d n ∙ ap (λ (m : ℕ). byte_of j (d / m)) (sym (bytes_of_bits (a - b))))
