-- Lists of records: the last one.
use Rattle.std.proofs.Common.{◌≡◌, ◌≢◌, ℕ, ◌+◌, List, [], ◌∷◌, ◌++◌, length, refl, ap, arith, length-append}
use Rattle.front.specs.declared.path.record.Record.{Record}

pub record AreSame (xs ys : List Record) (x y : Record) : Type 0 where
  pub fronts : xs ≡ ys
  pub ones : x ≡ y

pub tail_of : (a b : Record) (xs ys : List Record) → a ∷ xs ≡ b ∷ ys → xs ≡ ys
tail_of a b xs ys e = cc e

pub head_of : (a b : Record) (xs ys : List Record) → a ∷ xs ≡ b ∷ ys → a ≡ b
head_of a b xs ys e = cc e

pub not_none : (xs : List Record) (x : Record) → xs ++ x ∷ [] ≢ []
not_none xs x e = let n = ap (λ z. length z) e in let m = length-append xs (x ∷ []) in absurd (omega arith)

pub both_same : (xs ys : List Record) (x y : Record) → xs ++ x ∷ [] ≡ ys ++ y ∷ [] → AreSame xs ys x y
both_same [] [] x y e = record { fronts = refl; ones = head_of x y [] [] e }
both_same [] (b ∷ ys) x y e = absurd (not_none ys y (Rattle.std.proofs.Common.sym (tail_of x b [] (ys ++ y ∷ []) e)))
both_same (a ∷ xs) [] x y e = absurd (not_none xs x (tail_of a y (xs ++ x ∷ []) [] e))
both_same (a ∷ xs) (b ∷ ys) x y e =
    let m = both_same xs ys x y (tail_of a b (xs ++ x ∷ []) (ys ++ y ∷ []) e) in
    record { fronts = (λ i. head_of a b (xs ++ x ∷ []) (ys ++ y ∷ []) e i ∷ m.fronts i); ones = m.ones }

pub front_same : (xs ys : List Record) (x y : Record) → xs ++ x ∷ [] ≡ ys ++ y ∷ [] → xs ≡ ys
front_same xs ys x y e = (both_same xs ys x y e).fronts
