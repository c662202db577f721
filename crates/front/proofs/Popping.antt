-- The youngest record, and the others.
use Rattle.std.proofs.Common.{◌≡◌, ℕ, suc, ◌-◌, ◌<◌, List, [], ◌∷◌, ◌++◌, length, take, refl, sym, ap, ◌∙◌, arith}
use Rattle.front.specs.declared.path.record.Record.{Record}

pub record Popped (xs : List Record) : Type 0 where
  pub rest : List Record
  pub last : Record
  pub is : xs ≡ rest ++ last ∷ []
  pub rest_is : rest ≡ take (length xs - 1) xs

one_less : (n : ℕ) → suc (suc n) - 1 ≡ suc (suc n - 1)
one_less n = omega arith

pub popped : (xs : List Record) → 0 < length xs → Popped xs
popped [] h = absurd (omega arith)
popped (x ∷ []) h = record { rest = []; last = x; is = refl; rest_is = refl }
popped (x ∷ y ∷ xs) h =
    let p = popped (y ∷ xs) (omega arith) in
    record {
      rest = x ∷ p.rest;
      last = p.last;
      is = ap (λ z. x ∷ z) p.is;
      rest_is = ap (λ z. x ∷ z) p.rest_is ∙ sym (ap (λ n. take n (x ∷ y ∷ xs)) (one_less (length xs)));
    }
