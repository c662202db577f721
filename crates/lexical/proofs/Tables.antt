-- A table of the 256 bytes against a definition, by computing.
use Rattle.std.proofs.Common.{◌≡◌, ℕ, zero, suc, ◌<◌, Bool, true, false, ◌&&◌, not, nat_eq, get_or, List, refl, arith, inl, inr}
use Rattle.std.specs.Bool.{beq}
use Rattle.std.proofs.lemmas.Bool.{cases_eq}

-- two tests agree below n
unfoldable pub agree_below : (ℕ → Bool) → (ℕ → Bool) → ℕ → Bool
agree_below f g zero = true
agree_below f g (suc n) = beq (f n) (g n) && agree_below f g n

first_and_others : (x y others : Bool) → (beq x y && others) ≡ true → (x ≡ y) × (others ≡ true)
first_and_others true true others h = (refl, h)
first_and_others true false others h = cc
first_and_others false true others h = cc
first_and_others false false others h = (refl, h)

agree_at : (f g : ℕ → Bool) (n : ℕ) → agree_below f g n ≡ true → (b : ℕ) → b < n → f b ≡ g b
unfolding agree_below
agree_at f g zero h b lt = absurd (omega arith)
agree_at f g (suc n) h b lt =
    let both = first_and_others (f n) (g n) (agree_below f g n) h in
    elim (cases_eq b n) [ inl same ↦ rw same both.0 | inr other ↦ agree_at f g n both.1 b (omega arith) ]

-- a byte is in a table where it does not have the filler
pub by_table : (table : List ℕ) (filler : ℕ) (test : ℕ → Bool) (b : ℕ) → b < 256
    → agree_below (λ k. not (nat_eq (get_or table k 0) filler)) test 256 ≡ true → not (nat_eq (get_or table b 0) filler) ≡ test b
by_table table filler test b lt h = agree_at _ _ 256 h b lt
