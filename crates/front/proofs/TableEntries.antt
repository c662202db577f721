-- The entries of the create vector, where one is written and where one more tenant is let.
use Rattle.std.proofs.Common.{◌≡◌, ◌≢◌, ℕ, zero, suc, ◌<◌, ◌≤◌, Bool, true, false, cond, eqb, List, [], ◌∷◌, ◌++◌, length, Some, None, refl, ap, ◌∙◌}
use Rattle.std.proofs.Common.{arith, eq-eqb, ne_eqb, leb, leb-true, le-leb}
use Rattle.std.specs.Prelude.{slice_get, slice_set}
use Rattle.front.specs.declared.path.counted.Maker.{Maker}
use Rattle.front.specs.CreateTable.{table_entry_in, table_entry, maker_of}
use Rattle.front.specs.Creators.{newest_note}
use Rattle.front.specs.Trail.{Note}
use Rattle.front.proofs.CreateVector.{newest_both}

pub set_same : {X : Type 0} → (xs : List X) (i : ℕ) (x : X) → i < length xs → slice_get (slice_set xs i x) i ≡ Some x
set_same [] i x h = absurd (omega arith)
set_same (y ∷ ys) zero x h = refl
set_same (y ∷ ys) (suc i) x h = set_same ys i x (omega arith)

pub set_other : {X : Type 0} → (xs : List X) (i j : ℕ) (x : X) → i ≢ j → slice_get (slice_set xs i x) j ≡ slice_get xs j
set_other [] i j x n = refl
set_other (y ∷ ys) zero zero x n = absurd (n refl)
set_other (y ∷ ys) zero (suc j) x n = refl
set_other (y ∷ ys) (suc i) zero x n = refl
set_other (y ∷ ys) (suc i) (suc j) x n = set_other ys i j x (λ e. n (ap suc e))

pub set_length : {X : Type 0} → (xs : List X) (i : ℕ) (x : X) → length (slice_set xs i x) ≡ length xs
set_length [] i x = refl
set_length (y ∷ ys) zero x = refl
set_length (y ∷ ys) (suc i) x = ap suc (set_length ys i x)

pub entry_more : (told : ℕ) (xs : List Note) (x : Note) (r : ℕ) → table_entry_in told (xs ++ x ∷ []) r ≡ table_entry told (cond (eqb x.what.destination r) (Some x) (newest_note None xs r))
entry_more told xs x r = ap (table_entry told) (newest_both None xs (x ∷ []) r)

pub entry_new : (told : ℕ) (xs : List Note) (x : Note) (r : ℕ) → x.what.destination ≡ r → table_entry_in told (xs ++ x ∷ []) r ≡ table_entry told (Some x)
entry_new told xs x r e = entry_more told xs x r ∙ ap (λ b. table_entry told (cond b (Some x) (newest_note None xs r))) (eq-eqb x.what.destination r e)

pub entry_else : (told : ℕ) (xs : List Note) (x : Note) (r : ℕ) → x.what.destination ≢ r → table_entry_in told (xs ++ x ∷ []) r ≡ table_entry_in told xs r
entry_else told xs x r n = entry_more told xs x r ∙ ap (λ b. table_entry told (cond b (Some x) (newest_note None xs r))) (ne_eqb x.what.destination r n)

-- a tenant after the first ones has an entry, and what has an entry is such a tenant
pub entry_there : (told : ℕ) (x : Note) → told ≤ x.at → table_entry told (Some x) ≡ Some (maker_of x)
entry_there told x le = ap (λ b. cond b (Some (maker_of x)) None) (le-leb told x.at le)

pub record IsUntold (told : ℕ) (x : Note) (m : Maker) : Type 0 where
  pub untold : told ≤ x.at
  pub same : m ≡ maker_of x

pub entry_untold : (told : ℕ) (x : Note) (m : Maker) → Some (Some m) ≡ Some (table_entry told (Some x)) → IsUntold told x m
entry_untold told x m e = go (leb told x.at) refl e
  where
    go : (b : Bool) → leb told x.at ≡ b → Some (Some m) ≡ Some (cond b (Some (maker_of x)) None) → IsUntold told x m
    go true f g = record { untold = leb-true told x.at f; same = cc g }
    go false f g = absurd (cc g)
