-- Each place has an index of its own.
use Rattle.std.proofs.Common.{◌≡◌, ◌≢◌, ◌⊎◌, ℕ, ◌+◌, ◌*◌, ◌<◌, ◌≤◌, List, length, slice_index, slice_set, sym, refl, ap, ◌∙◌, inl, inr, ⊎_elim, arith, mul-le-mul_right, suc, suc-mul, get_or-set_same}
use Rattle.std.proofs.Common.{get_or-set_other}
use mathlib.Core.Logic.{dite}
use native.Mathlib.Decide.{ℕ_discrete, dec_lt}
use Rattle.inorder.specs.declared.history.Source.{Source}
use Rattle.inorder.specs.declared.history.Source.TheVariants.{First, Second}
use Rattle.ruu_words.specs.declared.place.Place.{Place}
use Rattle.ruu_words.specs.declared.place.Place.TheVariants.{Station, Info, Operand, Link}
use Rattle.ruu_words.specs.Laws.{PlacesAreApart}
use Rattle.ruu_words.specs.Places.{IsPlace, index, number, words_for}

row_below : (n p q c d : ℕ) → c < n → p < q → p * n + c < q * n + d
row_below n p q c d hc h = let m : suc p * n ≤ q * n = mul-le-mul_right n h in omega (arith, suc-mul p n)

same_row : (n p q c d : ℕ) → c < n → d < n → p * n + c ≡ q * n + d → p ≡ q
same_row n p q c d hc hd e = elim (dec_lt p q) [
  | yes h ↦ let r = row_below n p q c d hc h in absurd (omega arith)
  | no h ↦ elim (dec_lt q p) [ yes l ↦ (let r = row_below n q p d c hd l in absurd (omega arith)) | no l ↦ omega arith ]
]

number_small : (k : Source) → number k ≤ 1
number_small First = omega arith
number_small Second = omega arith

same_number : (k l : Source) → number k ≡ number l → k ≡ l
same_number First First e = refl
same_number First Second e = absurd (omega arith)
same_number Second First e = absurd (omega arith)
same_number Second Second e = refl

pub index_below : (n : ℕ) (x : Place) → IsPlace n x → index n x < words_for n
index_below n (Station s) h = omega arith
index_below n (Info s) h = omega arith
index_below n (Operand s k) h = let m = number_small k in omega arith
index_below n (Link p c k) h = let r = row_below n p n c 0 h.1 h.0 in let m = number_small k in omega arith

-- two places with one index are one place
pub one_place : (n : ℕ) (x y : Place) → IsPlace n x → IsPlace n y → index n x ≡ index n y → x ≡ y
one_place n (Station s) (Station t) h h' e = ap Station e
one_place n (Station s) (Info t) h h' e = absurd (omega arith)
one_place n (Station s) (Operand t k) h h' e = absurd (omega arith)
one_place n (Station s) (Link p c k) h h' e = absurd (omega arith)
one_place n (Info s) (Station t) h h' e = absurd (omega arith)
one_place n (Info s) (Info t) h h' e = let i : s ≡ t = omega arith in ap Info i
one_place n (Info s) (Operand t k) h h' e = absurd (omega arith)
one_place n (Info s) (Link p c k) h h' e = absurd (omega arith)
one_place n (Operand s k) (Station t) h h' e = absurd (omega arith)
one_place n (Operand s k) (Info t) h h' e = absurd (omega arith)
one_place n (Operand s k) (Operand t l) h h' e =
    let a = number_small k in let b = number_small l in
    let i : s ≡ t = omega arith in
    let both : number k ≡ number l = omega arith in
    let j : k ≡ l = same_number k l both in
    λ z. Operand (i z) (j z)
one_place n (Operand s k) (Link p c l) h h' e = let a = number_small k in absurd (omega arith)
one_place n (Link p c k) (Station t) h h' e = absurd (omega arith)
one_place n (Link p c k) (Info t) h h' e = absurd (omega arith)
one_place n (Link p c k) (Operand t l) h h' e = let b = number_small l in absurd (omega arith)
one_place n (Link p c k) (Link q d l) h h' e =
    let x : ℕ = p * n in let y : ℕ = q * n in
    let a = number_small k in let b = number_small l in
    let e' : 4 * n + 2 * (x + c) + number k ≡ 4 * n + 2 * (y + d) + number l = e in
    let both : x + c ≡ y + d = omega arith in
    let numbers : number k ≡ number l = omega arith in
    let ks : k ≡ l = same_number k l numbers in
    let i : p ≡ q = same_row n p q c d h.1 h'.1 both in
    let xy : x ≡ y = ap (λ (z : ℕ). z * n) i in
    let j : c ≡ d = omega arith in
    λ z. Link (i z) (j z) (ks z)

pub place_same : (n : ℕ) (x y : Place) → IsPlace n x → IsPlace n y → (x ≡ y) ⊎ (index n x ≢ index n y)
place_same n x y h h' = dite (ℕ_discrete (index n x) (index n y)) (λ e. inl (one_place n x y h h' e)) (λ e. inr e)

-- the words after one of them is written, by cases
pub written : (n : ℕ) (ws : List ℕ) (x y : Place) (v : ℕ) → length ws ≡ words_for n → IsPlace n x → IsPlace n y
    → ((x ≡ y) × (slice_index (slice_set ws (index n x) v) (index n y) ≡ v)) ⊎ ((index n x ≢ index n y) × (slice_index (slice_set ws (index n x) v) (index n y) ≡ slice_index ws (index n y)))
written n ws x y v wide h h' = ⊎_elim
    (λ (e : x ≡ y). let b = index_below n x h in inl (e, ap (λ (z : Place). slice_index (slice_set ws (index n x) v) (index n z)) (sym e) ∙ get_or-set_same ws (index n x) v 0 (omega arith)))
    (λ (a : index n x ≢ index n y). inr (a, get_or-set_other ws (index n x) (index n y) v 0 (λ e. a (sym e))))
    (place_same n x y h h')

pub places_are_apart : (n : ℕ) → PlacesAreApart n
places_are_apart n = record {
  inside = index_below n;
  one = one_place n;
  written = λ words x v wide h. let b = index_below n x h in get_or-set_same words (index n x) v 0 (omega arith);
  others = λ words x y v h h' ne. get_or-set_other words (index n x) (index n y) v 0 (λ e. ne (one_place n x y h h' (sym e)));
}
