-- How many tenants of a window reach memory, step by step.
use Rattle.std.proofs.lemmas.Grind.{common_steps}
use Rattle.std.proofs.Common.{◌≡◌, ◌<◌, ◌≤◌, ◌+◌, ℕ, zero, suc, List, [], ◌∷◌, ◌++◌, length, drop, Option, Some, refl, ap, ◌∙◌, arith}
use Rattle.std.specs.Prelude.{slice_get}
use Rattle.one_thread.specs.declared.station.Station.{Station}
use Rattle.one_thread.specs.Window.{access_at, accesses}
use Rattle.one_thread.proofs.Scan.{get_end, get_left}

-- Lists

pub accesses_left : (xs zs : List Station) (k : ℕ) → k ≤ length xs → accesses (xs ++ zs) k ≡ accesses xs k
accesses_left xs zs zero h = refl
accesses_left xs zs (suc k) h =
    let less : k < length xs = omega arith in
    let le : k ≤ length xs = omega arith in
    ap (λ n. n + access_at (slice_get (xs ++ zs) k)) (accesses_left xs zs k le)
    ∙ ap (λ o. accesses xs k + access_at o) (get_left xs zs k less)

pub accesses_end : (xs : List Station) (w : Station) →
    accesses (xs ++ w ∷ []) (suc (length xs)) ≡ accesses xs (length xs) + access_at (Some w)
accesses_end xs w = grind (arith, common_steps, accesses_left, get_end)

at_most_one : (o : Option Station) → access_at o ≤ 1
at_most_one o = grind (arith, common_steps)

pub accesses_most : (ws : List Station) (k : ℕ) → accesses ws k ≤ k
accesses_most ws zero = omega arith
accesses_most ws (suc k) = grind (arith, common_steps, accesses_most ws k, at_most_one)

accesses_first : (w : Station) (ws : List Station) (k : ℕ) →
    accesses (w ∷ ws) (suc k) ≡ access_at (Some w) + accesses ws k
accesses_first w ws zero = omega arith
accesses_first w ws (suc k) = grind (arith, common_steps, accesses_first w ws k)

pub accesses_drop : (ws : List Station) (w : Station) (k : ℕ) → slice_get ws 0 ≡ Some w →
    accesses ws (suc k) ≡ access_at (Some w) + accesses (drop 1 ws) k
accesses_drop ws w k e = grind (arith, common_steps, accesses_first)
