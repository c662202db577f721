-- A list after another one.
use Rattle.std.proofs.Common.{◌≡◌, ℕ, zero, suc, ◌-◌, ◌≤◌, List, [], ◌∷◌, ◌++◌, length, ap, ◌∙◌, arith}
use Rattle.std.specs.Prelude.{slice_set}

-- another item in the second list
pub set_after : {T : Type 0} (xs ys : List T) (n q : ℕ) (y : T) → n ≡ length xs → n ≤ q →
    slice_set (xs ++ ys) q y ≡ xs ++ slice_set ys (q - n) y
set_after [] ys n q y e late = let none : n ≡ 0 = omega arith in let same : q ≡ q - n = omega arith in ap (λ k. slice_set ys k y) same
set_after (x ∷ xs) ys n zero y e late = absurd (omega arith)
set_after (x ∷ xs) ys n (suc q) y e late =
    let same : q - (n - 1) ≡ suc q - n = omega arith in
    ap (λ zs. x ∷ zs) (set_after xs ys (n - 1) q y (omega arith) (omega arith) ∙ ap (λ k. xs ++ slice_set ys k y) same)
