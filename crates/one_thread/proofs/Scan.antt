-- Going over the stations.
use Rattle.std.proofs.lemmas.Grind.{common_steps}
use Rattle.std.proofs.Common.{◌≡◌, ◌<◌, ◌≤◌, ℕ, zero, suc, ◌+◌, ◌-◌, min, List, [], ◌∷◌, ◌++◌, length, take, Option, Some, refl, sym, ap, ◌∙◌, arith}
use Rattle.std.proofs.Math.Seq.{take-append-add}
use Rattle.std.specs.Prelude.{slice_get, slice_set}
use Rattle.one_thread.specs.declared.station.Station.{Station}
use Rattle.one_thread.specs.Window.{register_in, register_after}

register_next : (r : ℕ) (v : Option ℕ) (ws : List Station) (j : ℕ) → register_in r v (take (suc j) ws) ≡ register_after r (register_in r v (take j ws)) (slice_get ws j)
register_next r v [] zero = refl
register_next r v [] (suc j) = refl
register_next r v (x ∷ ws) zero = refl
register_next r v (x ∷ ws) (suc j) = register_next r (register_after r v (Some x)) ws j

pub register_step : (r : ℕ) (v : Option ℕ) (ws : List Station) (j : ℕ) → register_in r v (take (j + 1) ws) ≡ register_after r (register_in r v (take j ws)) (slice_get ws j)
register_step r v ws j = let one : j + 1 ≡ suc j = omega arith in rw one (register_next r v ws j)

pub register_end : (r : ℕ) (v : Option ℕ) (ws : List Station) (w : Station) → register_in r v (ws ++ w ∷ []) ≡ register_after r (register_in r v ws) (Some w)
register_end r v [] w = refl
register_end r v (x ∷ ws) w = register_end r (register_after r v (Some x)) ws w

pub get_end : (ws xs : List Station) (w : Station) → slice_get (ws ++ w ∷ xs) (length ws) ≡ Some w
get_end [] xs w = refl
get_end (x ∷ ws) xs w = get_end ws xs w

pub set_middle : (xs zs : List Station) (x y : Station) → slice_set (xs ++ x ∷ zs) (length xs) y ≡ xs ++ y ∷ zs
set_middle [] zs x y = refl
set_middle (a ∷ xs) zs x y = ap (λ l. a ∷ l) (set_middle xs zs x y)

pub take_middle : (xs zs : List Station) → take (length xs) (xs ++ zs) ≡ xs
take_middle xs zs = grind (arith, common_steps)

pub get_left : (xs zs : List Station) (k : ℕ) → k < length xs → slice_get (xs ++ zs) k ≡ slice_get xs k
get_left [] zs k h = absurd (omega (arith, h))
get_left (x ∷ xs) zs zero h = refl
get_left (x ∷ xs) zs (suc k) h = let less : k < length xs = omega arith in get_left xs zs k less

pub take_left : (xs zs : List Station) (k : ℕ) → k ≤ length xs → take k (xs ++ zs) ≡ take k xs
take_left xs zs k h = grind (arith, common_steps)

-- a place in a list
pub record Place (W : List Station) (i : ℕ) (w : Station) : Type 0 where
  pub xs : List Station
  pub zs : List Station
  pub is : W ≡ xs ++ w ∷ zs
  pub place : i ≡ length xs

pub place_at : (W : List Station) (i : ℕ) (w : Station) → slice_get W i ≡ Some w → Place W i w
place_at [] i w e = absurd (cc)
place_at (x ∷ W) zero w e = let same : x ≡ w = cc in record { xs = []; zs = W; is = ap (λ y. y ∷ W) same; place = refl }
place_at (x ∷ W) (suc i) w e =
    let p = place_at W i w e in
    record { xs = x ∷ p.xs; zs = p.zs; is = ap (λ l. x ∷ l) p.is; place = ap suc p.place }

-- the first places of two lists
take_past : (xs ys : List Station) (i : ℕ) → length xs ≤ i → take i (xs ++ ys) ≡ xs ++ take (i - length xs) ys
take_past xs ys i h = let same : length xs + (i - length xs) ≡ i = omega (arith, h) in sym (ap (λ k. take k (xs ++ ys)) same) ∙ take-append-add xs ys (i - length xs)

pub take_parts : (xs ys : List Station) (i m : ℕ) → m ≡ min i (length xs) → take m xs ++ take (i - m) ys ≡ take i (xs ++ ys)
take_parts xs ys i m e = grind (arith, common_steps, take_past)
