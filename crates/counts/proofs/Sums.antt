-- Sums over the views of a table.
use Rattle.std.proofs.Common.{◌≡◌, ◌≢◌, ℕ, zero, suc, ◌+◌, ◌*◌, ◌<◌, List, [], ◌∷◌, ◌++◌, length, set, get_or, sum_by, sym, refl, ap, ◌∙◌, subst, ⊎_elim, arith}
use Rattle.std.proofs.lemmas.List.Sums.{sum_by-set, sum_by_push, sum_by-cons, get_or-le-sum_by}
use mathlib.Core.Option.{some, some-ne-none, some-injective}
use lib.ListN.{get_elem?}
use Rattle.atomic_table.proofs.Lists.{at_set, at_snoc}

module _ {A : Type 0} where
  -- what is true of each item of a list
  abbrev pub Every : (A → Type 0) → List A → Type 0
  Every P xs = (id : ℕ) (x : A) → get_elem? xs id ≡ some x → P x

  there : (xs : List A) (id : ℕ) (x : A) → get_elem? xs id ≡ some x → (get_or xs id x ≡ x) × (id < length xs)
  there [] id x at = absurd (some-ne-none x (sym at))
  there (y ∷ ys) zero x at = (some-injective y x at, omega arith)
  there (y ∷ ys) (suc id) x at = let h = there ys id x at in (h.0, (let l = h.1 in omega arith))

  pub every_set : (P : A → Type 0) (xs : List A) (id : ℕ) (y : A) → Every P xs → P y → Every P (set xs id y)
  every_set P xs id y all new j x at =
      ⊎_elim (λ (t : (j ≡ id) × (y ≡ x)). subst P t.1 new) (λ (t : (j ≢ id) × (get_elem? xs j ≡ some x)). all j x t.1) (at_set xs id j y x at)

  pub every_push : (P : A → Type 0) (xs : List A) (y : A) → Every P xs → P y → Every P (xs ++ y ∷ [])
  every_push P xs y all new j x at = ⊎_elim (λ was. all j x was) (λ (same : y ≡ x). subst P same new) (at_snoc xs y x j at)

  pub every_one : (P : A → Type 0) (y : A) → P y → Every P (y ∷ [])
  every_one P y new zero x at = subst P (some-injective y x at) new
  every_one P y new (suc j) x at = absurd (some-ne-none x (sym at))

  -- one item is exchanged
  pub sum_set : (f : A → ℕ) (xs : List A) (id : ℕ) (x y : A) → get_elem? xs id ≡ some x → sum_by f (set xs id y) + f x ≡ sum_by f xs + f y
  sum_set f xs id x y at =
      let h = there xs id x at in
      let same : f (get_or xs id x) ≡ f x = ap f h.0 in
      let s = sum_by-set f xs id y x h.1 in
      omega (arith, s, same)

  pub sum_push : (f : A → ℕ) (xs : List A) (y : A) → sum_by f (xs ++ y ∷ []) ≡ sum_by f xs + f y
  sum_push f xs y = sum_by_push f xs y

  pub sum_one : (f : A → ℕ) (y : A) → sum_by f (y ∷ []) ≡ f y
  sum_one f y = sum_by-cons f y [] ∙ omega arith

  pub sum_twice : (f g : A → ℕ) (xs : List A) → Every (λ x. g x ≡ 2 * f x) xs → sum_by g xs ≡ 2 * sum_by f xs
  sum_twice f g [] all = refl
  sum_twice f g (x ∷ xs) all =
      let here = all zero x refl in
      let rest = sum_twice f g xs (λ j y at. all (suc j) y at) in
      omega (arith, here, rest, sum_by-cons f x xs, sum_by-cons g x xs)

  none_left : (f g : A → ℕ) (xs : List A) → Every (λ x. f x ≡ 0 → g x ≡ 0) xs → sum_by f xs ≡ 0 → sum_by g xs ≡ 0
  none_left f g [] all none = refl
  none_left f g (x ∷ xs) all none =
      let both = sum_by-cons f x xs in
      let here = all zero x refl (omega (arith, both, none)) in
      let rest = none_left f g xs (λ j y at. all (suc j) y at) (omega (arith, both, none)) in
      omega (arith, here, rest, sum_by-cons g x xs)

  -- where one item has all of f, and what has nothing of f has nothing of g, that item has all of g
  pub sum_held : (f g : A → ℕ) (xs : List A) (id : ℕ) (x : A) → get_elem? xs id ≡ some x → Every (λ y. f y ≡ 0 → g y ≡ 0) xs → sum_by f xs ≡ f x → sum_by g xs ≡ g x
  sum_held f g [] id x at all held = absurd (some-ne-none x (sym at))
  sum_held f g (y ∷ ys) zero x at all held =
      let same : y ≡ x = some-injective y x at in
      let f_same : f y ≡ f x = ap f same in
      let g_same : g y ≡ g x = ap g same in
      let rest = none_left f g ys (λ j z there. all (suc j) z there) (omega (arith, held, f_same, sum_by-cons f y ys)) in
      omega (arith, rest, g_same, sum_by-cons g y ys)
  sum_held f g (y ∷ ys) (suc id) x at all held =
      let h = there ys id x at in
      let f_same : f (get_or ys id x) ≡ f x = ap f h.0 in
      let least = get_or-le-sum_by f ys id x h.1 in
      let both = sum_by-cons f y ys in
      let here = all zero y refl (omega (arith, held, f_same, least, both)) in
      let rest = sum_held f g ys id x at (λ j z there. all (suc j) z there) (omega (arith, held, f_same, least, both)) in
      omega (arith, rest, here, sum_by-cons g y ys)
