-- An item of a list is set back to what it was.
use Rattle.std.proofs.Common.{◌≡◌, ℕ, zero, suc, List, [], ◌∷◌, set, Some, refl, sym, ap}
use Rattle.std.specs.Prelude.{slice_get}

pub set_back : {X : Type 0} → (xs : List X) (k : ℕ) (v w : X) → slice_get xs k ≡ Some v → set (set xs k w) k v ≡ xs
set_back [] k v w e = refl
set_back (x ∷ xs) zero v w e = let same : v ≡ x = cc (sym e) in ap (λ y. y ∷ xs) same
set_back (x ∷ xs) (suc k) v w e = ap (λ l. x ∷ l) (set_back xs k v w e)
