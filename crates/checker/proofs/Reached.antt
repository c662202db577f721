-- Sets of instructions that are looked at one by one.
use Rattle.std.proofs.Common.{◌≡◌, ◌∙◌, ◌+◌, ◌<◌, ℕ, zero, suc, Bool, false, true, List, [], ◌∷◌, ◌++◌, length, take, replicate, Some, slice_get, slice_index_or, ap, refl, subst, sym, arith, inl, inr}
use Rattle.std.proofs.lemmas.List.{take_all}
use Rattle.std.proofs.lemmas.Bool.{cases_lt}
use Rattle.instructions.specs.Programs.{Program}
use Rattle.checker.specs.Reach.{HasPath, HasSuccessors, HavePaths, HavePathsTo}
use Rattle.checker.specs.declared.reach.Paths.{Paths}

-- all below k go right, and so does k
pub below_and : (P : Program) (S : List Bool) (k : ℕ)
    → ((j : ℕ) → j < k → slice_get S j ≡ Some true → HasSuccessors P S j)
    → (slice_get S k ≡ Some true → HasSuccessors P S k)
    → (j : ℕ) → j < k + 1 → slice_get S j ≡ Some true → HasSuccessors P S j
below_and P S k before at j less is = elim (cases_lt j k) [
  | inl low ↦ before j low is
  | inr high ↦
      let same : k ≡ j = omega (arith, less, high) in
      subst (λ (i : ℕ). slice_get S i ≡ Some true → HasSuccessors P S i) same at is
]

got : (S : List Bool) (k : ℕ) (b d : Bool) → slice_get S k ≡ Some b → slice_index_or S k d ≡ b
got [] k b d is = absurd cc
got (x ∷ xs) zero b d is = cc
got (x ∷ xs) (suc k) b d is = got xs k b d is

-- what is not in a set is not in it
pub not_in : {A : Type 0} (S : List Bool) (k : ℕ) → slice_index_or S k false ≡ false → slice_get S k ≡ Some true → A
not_in S k other is =
    let other_is : slice_index_or S k false ≡ true = got S k true false is in
    absurd cc

-- ---- paths

not_marked : {A : Type 0} (n k : ℕ) → slice_get (replicate n false) k ≡ Some true → A
not_marked zero k is = absurd cc
not_marked (suc n) zero is = absurd cc
not_marked (suc n) (suc k) is = not_marked n k is

-- nothing is marked at first
pub none_marked : (paths : Paths) (P : Program) (m n : ℕ) (old new : List Bool) → old ≡ [] → new ≡ take m old ++ replicate n false
    → HavePaths paths P new
none_marked paths P m n old new empty is k at =
    let nothing : take m old ≡ [] = rw empty (take_all m [] (omega arith)) in
    not_marked n k (subst (λ (S : List Bool). slice_get S k ≡ Some true) (is ∙ ap (λ (S : List Bool). S ++ replicate n false) nothing) at)

last_is : (ks : List ℕ) (k : ℕ) → slice_get (ks ++ k ∷ []) (length ks) ≡ Some k
last_is [] k = refl
last_is (x ∷ xs) k = last_is xs k

front_is : (ks : List ℕ) (k i j : ℕ) → slice_get ks i ≡ Some j → slice_get (ks ++ k ∷ []) i ≡ Some j
front_is [] k i j is = absurd cc
front_is (x ∷ xs) k zero j is = is
front_is (x ∷ xs) k (suc i) j is = front_is xs k i j is

module _ (paths : Paths) (P : Program) (ks old : List ℕ) (k : ℕ) (is : old ≡ ks ++ k ∷ []) (have : HavePathsTo paths P old) where
  -- a path leads to the last one of a list
  pub last_path : HasPath paths P k
  last_path = have (length ks) k (subst (λ (s : List ℕ). slice_get s (length ks) ≡ Some k) (sym is) (last_is ks k))

  -- and to the others
  pub other_paths : HavePathsTo paths P ks
  other_paths i j at = have i j (subst (λ (s : List ℕ). slice_get s i ≡ Some j) (sym is) (front_is ks k i j at))
