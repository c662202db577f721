-- Lists of tenants: all of two parts, and the last one.
use Rattle.std.proofs.Common.{◌≡◌, ◌≢◌, ◌⊎◌, suc, List, [], ◌∷◌, ◌++◌, length, refl, ap, inl, inr, arith, length-append}
use Rattle.std.specs.List.{AllByRecursion}
use Rattle.front.specs.Knows.{whats}
use Rattle.front.specs.Trail.{Note}

pub all_both : (Q : Note → Type 0) (xs ys : List Note) → AllByRecursion Q xs → AllByRecursion Q ys → AllByRecursion Q (xs ++ ys)
all_both Q [] ys a b = b
all_both Q (x ∷ xs) ys a b = (a.0, all_both Q xs ys a.1 b)

pub all_front : (Q : Note → Type 0) (xs ys : List Note) → AllByRecursion Q (xs ++ ys) → AllByRecursion Q xs
all_front Q [] ys a = tt
all_front Q (x ∷ xs) ys a = (a.0, all_front Q xs ys a.1)

pub all_rest : (Q : Note → Type 0) (xs ys : List Note) → AllByRecursion Q (xs ++ ys) → AllByRecursion Q ys
all_rest Q [] ys a = a
all_rest Q (x ∷ xs) ys a = all_rest Q xs ys a.1

pub all_map : (Q R : Note → Type 0) → ((n : Note) → Q n → R n) → (xs : List Note) → AllByRecursion Q xs → AllByRecursion R xs
all_map Q R f [] a = tt
all_map Q R f (x ∷ xs) a = (f x a.0, all_map Q R f xs a.1)

pub all_two : (Q R S : Note → Type 0) → ((n : Note) → Q n → R n → S n) → (xs : List Note) → AllByRecursion Q xs → AllByRecursion R xs → AllByRecursion S xs
all_two Q R S f [] a b = tt
all_two Q R S f (x ∷ xs) a b = (f x a.0 b.0, all_two Q R S f xs a.1 b.1)

-- the last one
pub record Last (xs : List Note) : Type 0 where
  pub front : List Note
  pub one : Note
  pub is : xs ≡ front ++ one ∷ []

pub last_cases : (xs : List Note) → (xs ≡ []) ⊎ Last xs
last_cases [] = inl refl
last_cases (x ∷ xs) = inr (go x xs)
  where
    go : (x : Note) (xs : List Note) → Last (x ∷ xs)
    go x [] = record { front = []; one = x; is = refl }
    go x (y ∷ ys) = let l = go y ys in record { front = x ∷ l.front; one = l.one; is = ap (λ z. x ∷ z) l.is }

pub record AreSame (xs ys : List Note) (x y : Note) : Type 0 where
  pub fronts : xs ≡ ys
  pub ones : x ≡ y

none_more : (xs : List Note) (x : Note) → xs ++ x ∷ [] ≢ []
none_more xs x e = let n = ap (λ z. length z) e in let m = length-append xs (x ∷ []) in absurd (omega arith)

pub last_not : (xs : List Note) (x : Note) → [] ≢ xs ++ x ∷ []
last_not xs x e = let n = ap (λ z. length z) e in let m = length-append xs (x ∷ []) in absurd (omega arith)

pub tail_of : (a b : Note) (xs ys : List Note) → a ∷ xs ≡ b ∷ ys → xs ≡ ys
tail_of a b xs ys e = cc e

pub head_of : (a b : Note) (xs ys : List Note) → a ∷ xs ≡ b ∷ ys → a ≡ b
head_of a b xs ys e = cc e

pub last_same : (xs ys : List Note) (x y : Note) → xs ++ x ∷ [] ≡ ys ++ y ∷ [] → AreSame xs ys x y
last_same [] [] x y e = record { fronts = refl; ones = head_of x y [] [] e }
last_same [] (b ∷ ys) x y e = absurd (last_not ys y (tail_of x b [] (ys ++ y ∷ []) e))
last_same (a ∷ xs) [] x y e = absurd (none_more xs x (tail_of a y (xs ++ x ∷ []) [] e))
last_same (a ∷ xs) (b ∷ ys) x y e =
    let m = last_same xs ys x y (tail_of a b (xs ++ x ∷ []) (ys ++ y ∷ []) e) in
    record { fronts = (λ i. head_of a b (xs ++ x ∷ []) (ys ++ y ∷ []) e i ∷ m.fronts i); ones = m.ones }

pub whats_append : (xs ys : List Note) → whats (xs ++ ys) ≡ whats xs ++ whats ys
whats_append [] ys = refl
whats_append (x ∷ xs) ys = ap (λ z. x.what ∷ z) (whats_append xs ys)

pub whats_length : (xs : List Note) → length (whats xs) ≡ length xs
whats_length [] = refl
whats_length (x ∷ xs) = ap suc (whats_length xs)
