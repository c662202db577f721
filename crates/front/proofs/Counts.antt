-- How many tenants pass a test, by what is kept of the path.
use Rattle.std.proofs.Common.{◌≡◌, ℕ, suc, ◌≤◌, Bool, true, false, cond, List, [], ◌∷◌, ◌++◌, Some, refl, sym, ap, ◌∙◌, subst, ⊎_elim, arith, append_assoc, true≢false}
use Rattle.std.proofs.lemmas.List.{append-nil}
use Rattle.std.specs.List.{AllByRecursion}
use Rattle.instructions.specs.Programs.{Program}
use Rattle.inorder.specs.Tenants.{Tenant, on_path}
use Rattle.inorder.specs.Unit.{at, how_many}
use Rattle.inorder.proofs.Positions.{at_more, at_new}
use Rattle.front.specs.Trail.{Note, note, trail}
use Rattle.front.proofs.Lists.{Last, all_front, all_map, all_rest, last_cases, last_same}
use Rattle.front.proofs.Trails.{trail_off, trail_on}

abbrev pub count : (Note → Bool) → List Note → ℕ
count f [] = 0
count f (n ∷ ns) = cond (f n) (suc (count f ns)) (count f ns)

pub count_last : (f : Note → Bool) (xs : List Note) (z : Note) → count f (xs ++ z ∷ []) ≡ cond (f z) (suc (count f xs)) (count f xs)
count_last f [] z = refl
count_last f (x ∷ xs) z = go (f x) (f z) (count_last f xs z)
  where
    go : (a b : Bool) → count f (xs ++ z ∷ []) ≡ cond b (suc (count f xs)) (count f xs) → cond a (suc (count f (xs ++ z ∷ []))) (count f (xs ++ z ∷ [])) ≡ cond b
        (suc (cond a (suc (count f xs)) (count f xs))) (cond a (suc (count f xs)) (count f xs))
    go true true e = ap suc e
    go true false e = ap suc e
    go false true e = e
    go false false e = e

least : (n : ℕ) → 0 ≤ n
least n = omega arith

module _ (P : Program) (test : Tenant → Bool) (f : Note → Bool) where
  abbrev pub FailsAt : List Tenant → Note → Type 0
  FailsAt ts n = (t : Tenant) → at ts n.at ≡ Some t → test t ≡ false

  abbrev pub SaysAt : List Tenant → Note → Type 0
  SaysAt ts n = (t : Tenant) → at ts n.at ≡ Some t → test t ≡ true → f n ≡ true

  abbrev pub TrueAt : List Tenant → Note → Type 0
  TrueAt ts n = (t : Tenant) → at ts n.at ≡ Some t → f n ≡ true → test t ≡ true

  one_more : (a b : Bool) (m n : ℕ) → (a ≡ true → b ≡ true) → m ≤ n → cond a (suc m) m ≤ cond b (suc n) n
  one_more true true m n h l = omega arith
  one_more true false m n h l = let no : false ≡ true = h refl in absurd (cc no)
  one_more false true m n h l = omega arith
  one_more false false m n h l = l

  no_more : (a : Bool) (m n : ℕ) → a ≡ false → m ≤ n → cond a (suc m) m ≤ n
  no_more true m n h l = absurd (cc h)
  no_more false m n h l = l

  any_more : (a : Bool) (m n : ℕ) → n ≤ m → n ≤ cond a (suc m) m
  any_more true m n l = omega arith
  any_more false m n l = l

  fails_more : (t : Tenant) (ts : List Tenant) (n : Note) → FailsAt (t ∷ ts) n → FailsAt ts n
  fails_more t ts n h u is = h u (at_more t ts n.at u is)

  says_more : (t : Tenant) (ts : List Tenant) (n : Note) → SaysAt (t ∷ ts) n → SaysAt ts n
  says_more t ts n h u is = h u (at_more t ts n.at u is)

  true_more : (t : Tenant) (ts : List Tenant) (n : Note) → TrueAt (t ∷ ts) n → TrueAt ts n
  true_more t ts n h u is = h u (at_more t ts n.at u is)

  pub at_most : ((t : Tenant) → test t ≡ true → on_path t ≡ true) → (ts : List Tenant) (A B : List Note) → trail P ts ≡ A ++ B → AllByRecursion (FailsAt ts) A → AllByRecursion (SaysAt ts) B →
      how_many test ts ≤ count f B
  at_most on [] A B e a b = least (count f B)
  at_most on (t ∷ ts) A B e a b = go (on_path t) refl (at_most on ts)
    where
      a' : (xs : List Note) → AllByRecursion (FailsAt (t ∷ ts)) xs → AllByRecursion (FailsAt ts) xs
      a' xs h = all_map (FailsAt (t ∷ ts)) (FailsAt ts) (fails_more t ts) xs h

      b' : (xs : List Note) → AllByRecursion (SaysAt (t ∷ ts)) xs → AllByRecursion (SaysAt ts) xs
      b' xs h = all_map (SaysAt (t ∷ ts)) (SaysAt ts) (says_more t ts) xs h

      off : (b : Bool) → test t ≡ b → on_path t ≡ false → test t ≡ false
      off true h o = absurd (true≢false (sym (on t h) ∙ o))
      off false h o = h

      go : (b : Bool) → on_path t ≡ b → ((A B : List Note) → trail P ts ≡ A ++ B → AllByRecursion (FailsAt ts) A → AllByRecursion (SaysAt ts) B → how_many test ts ≤ count f B) →
          how_many test (t ∷ ts) ≤ count f B
      go false o more = no_more (test t) (how_many test ts) (count f B) (off (test t) refl o) (more A B (sym (trail_off P t ts o) ∙ e) (a' A a) (b' B b))
      go true o more = ⊎_elim
          (λ none.
          let whole : trail P ts ++ note P ts t ∷ [] ≡ A = sym (trail_on P t ts o) ∙ (e ∙ (ap (λ z. A ++ z) none ∙ append-nil A)) in
          let all : AllByRecursion (FailsAt (t ∷ ts)) (trail P ts ++ note P ts t ∷ []) = subst (AllByRecursion (FailsAt (t ∷ ts))) (sym whole) a in
          let rest = a' (trail P ts) (all_front (FailsAt (t ∷ ts)) (trail P ts) (note P ts t ∷ []) all) in
          let here : test t ≡ false = (all_rest (FailsAt (t ∷ ts)) (trail P ts) (note P ts t ∷ []) all).0 t (at_new t ts) in
          let fewer : how_many test ts ≤ count f [] = more (trail P ts) [] (sym (append-nil (trail P ts))) rest tt in
          subst (λ z. how_many test (t ∷ ts) ≤ count f z) (sym none) (no_more (test t) (how_many test ts) (count f []) here fewer))
          (λ (l : Last B).
          let same = last_same (trail P ts) (A ++ l.front) (note P ts t) l.one (sym (trail_on P t ts o) ∙ (e ∙ (ap (λ z. A ++ z) l.is ∙ sym (append_assoc A l.front (l.one ∷ []))))) in
          let all : AllByRecursion (SaysAt (t ∷ ts)) (l.front ++ l.one ∷ []) = subst (AllByRecursion (SaysAt (t ∷ ts))) l.is b in
          let here : SaysAt (t ∷ ts) (note P ts t) = subst (SaysAt (t ∷ ts)) (sym same.ones) (all_rest (SaysAt (t ∷ ts)) l.front (l.one ∷ []) all).0 in
          let fewer = more A l.front same.fronts (a' A a) (b' l.front (all_front (SaysAt (t ∷ ts)) l.front (l.one ∷ []) all)) in
          subst (λ z. how_many test (t ∷ ts) ≤ z) (sym (ap (count f) l.is ∙ (count_last f l.front l.one ∙ ap (λ z. cond (f z) (suc (count f l.front)) (count f l.front)) (sym same.ones))))
          (one_more (test t) (f (note P ts t)) (how_many test ts) (count f l.front) (here t (at_new t ts)) fewer))
          (last_cases B)

  pub at_least : (ts : List Tenant) (A B : List Note) → trail P ts ≡ A ++ B → AllByRecursion (TrueAt ts) B → count f B ≤ how_many test ts
  at_least [] A B e b = ⊎_elim
      (λ none. subst (λ z. count f z ≤ 0) (sym none) (least 0))
      (λ (l : Last B). absurd (Rattle.front.proofs.Lists.last_not (A ++ l.front) l.one (e ∙ (ap (λ z. A ++ z) l.is ∙ sym (append_assoc A l.front (l.one ∷ []))))))
      (last_cases B)
  at_least (t ∷ ts) A B e b = go (on_path t) refl (at_least ts)
    where
      b' : (xs : List Note) → AllByRecursion (TrueAt (t ∷ ts)) xs → AllByRecursion (TrueAt ts) xs
      b' xs h = all_map (TrueAt (t ∷ ts)) (TrueAt ts) (true_more t ts) xs h

      go : (b : Bool) → on_path t ≡ b → ((A B : List Note) → trail P ts ≡ A ++ B → AllByRecursion (TrueAt ts) B → count f B ≤ how_many test ts) → count f B ≤ how_many test (t ∷ ts)
      go false o more = any_more (test t) (how_many test ts) (count f B) (more A B (sym (trail_off P t ts o) ∙ e) (b' B b))
      go true o more = ⊎_elim
          (λ none. subst (λ z. count f z ≤ how_many test (t ∷ ts)) (sym none) (least (how_many test (t ∷ ts))))
          (λ (l : Last B).
          let same = last_same (trail P ts) (A ++ l.front) (note P ts t) l.one (sym (trail_on P t ts o) ∙ (e ∙ (ap (λ z. A ++ z) l.is ∙ sym (append_assoc A l.front (l.one ∷ []))))) in
          let all : AllByRecursion (TrueAt (t ∷ ts)) (l.front ++ l.one ∷ []) = subst (AllByRecursion (TrueAt (t ∷ ts))) l.is b in
          let here : TrueAt (t ∷ ts) (note P ts t) = subst (TrueAt (t ∷ ts)) (sym same.ones) (all_rest (TrueAt (t ∷ ts)) l.front (l.one ∷ []) all).0 in
          let fewer = more A l.front same.fronts (b' l.front (all_front (TrueAt (t ∷ ts)) l.front (l.one ∷ []) all)) in
          subst (λ z. z ≤ how_many test (t ∷ ts)) (sym (ap (count f) l.is ∙ (count_last f l.front l.one ∙ ap (λ z. cond (f z) (suc (count f l.front)) (count f l.front)) (sym same.ones))))
          (one_more (f (note P ts t)) (test t) (count f l.front) (how_many test ts) (here t (at_new t ts)) fewer))
          (last_cases B)
