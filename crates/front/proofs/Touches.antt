-- Readings and writings of the create vector, one after another.
use Rattle.std.proofs.Common.{◌≡◌, ℕ, ◌+◌, ◌%◌, ◌^◌, ◌≤◌, sym, ap, ◌∙◌}
use Rattle.std.proofs.Common.{arith}
use Rattle.front.specs.CreateTable.{IsTouched}

pub touched_more : (a b old mid new : ℕ) → IsTouched a old mid → IsTouched b mid new → IsTouched (a + b) old new
touched_more a b old mid new x y = record { more = x.more + y.more; few = omega (arith, x.few, y.few); is = omega (arith, x.is, y.is) }

pub touched_one : (old new : ℕ) → new ≡ (old + 1) % 2 ^ 64 → IsTouched 1 old new
touched_one old new e = record { more = 1; few = omega arith; is = omega (arith, e) }

pub touched_within : (a b old new : ℕ) → a ≤ b → IsTouched a old new → IsTouched b old new
touched_within a b old new h x = record { more = x.more; few = omega (arith, x.few, h); is = x.is }

pub touched_none : (a old new : ℕ) → new ≡ old → IsTouched a old new
touched_none a old new e = let none : old + 0 ≡ old = omega arith in record { more = 0; few = omega arith; is = ap (λ z. z % 2 ^ 64) (e ∙ sym none) }
