-- The product of two signed words fits 64 bits, and its two words are the halves.
use Rattle.std.proofs.Common.{◌≡◌, ◌≤◌, ◌^◌, ℤ, pos, negsuc, ◌*ℤ◌, w32, w64, FitsSigned, unsigned_abs, of_z, to_z, to_z-of_z, ap, ap₂, ◌∙◌, lit<, arith}
use Rattle.std.proofs.lemmas.Int.{fits_signed_mul}

-- a signed word fits 64 bits too
wider : (a : ℤ) → FitsSigned w32 a → FitsSigned w64 a
wider a f = record { sfits = omega (arith, f.sfits) }

small : (a : ℤ) → FitsSigned w32 a → unsigned_abs a ≤ 2 ^ 31
small (pos n) f = omega (arith, f.sfits)
small (negsuc n) f = omega (arith, f.sfits)

product_fits : (a b : ℤ) → FitsSigned w32 a → FitsSigned w32 b → FitsSigned w64 (a *ℤ b)
product_fits a b f g = fits_signed_mul w64 a b (2 ^ 31) (2 ^ 31) (small a f) (small b g) (lit< tt)

-- a word in 64 bits is that word
same : (a x : ℤ) → FitsSigned w32 a → x ≡ to_z w32 (of_z w32 a) → to_z w64 (of_z w64 x) ≡ a
same a x f e = ap (λ z. to_z w64 (of_z w64 z)) (e ∙ to_z-of_z f) ∙ to_z-of_z (wider a f)

pub wide_product : (a b x y : ℤ) → FitsSigned w32 a → FitsSigned w32 b → x ≡ to_z w32 (of_z w32 a) → y ≡ to_z w32 (of_z w32 b)
    → of_z w64 (to_z w64 (of_z w64 (to_z w64 (of_z w64 x) *ℤ to_z w64 (of_z w64 y)))) ≡ of_z w64 (a *ℤ b)
wide_product a b x y f g d e =
    ap (λ z. of_z w64 (to_z w64 (of_z w64 z))) (ap₂ (λ u v. u *ℤ v) (same a x f d) (same b y g e))
    ∙ ap (of_z w64) (to_z-of_z (product_fits a b f g))
