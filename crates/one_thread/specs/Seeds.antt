-- The chooser that a seed gives, and the order.
use Rattle.std.specs.Prelude.{◌≡◌, ℕ, List, Option, Some, None}
use Rattle.rand_pcg.specs.Lcg.{Lcg, increment_of, started}
use Rattle.rand_pcg.specs.Pcg.{multiplier_64, pcg32}
use Rattle.one_thread.specs.Possible.{Possible}
use Rattle.one_thread.specs.declared.chooser.Order.{Order}
use Rattle.one_thread.specs.declared.chooser.Order.TheVariants.{First, Seeded}

-- The generator PCG32, begun with the seed as its state, in its stream 0
abbrev pub seeded : ℕ → Lcg
seeded seed = started 64 multiplier_64 seed (increment_of 64 0)

-- The next word of the generator
abbrev pub IsNextWord : (old : Lcg) (word : ℕ) (new : Lcg) → Type 0
IsNextWord old word new = (word, new) ≡ pcg32 old

-- The chooser of a seed answers the next word of the generator, whichever steps are possible
abbrev pub ChoosesNext : (old : Lcg) → List Possible → (answer : ℕ) (new : Lcg) → Type 0
ChoosesNext old steps answer new = IsNextWord old answer new

-- The first order always names the first step, and stays; the order of a seed names what its chooser names
abbrev pub ChoosesBy : (old : Order) → List Possible → (answer : ℕ) (new : Order) → Type 0
ChoosesBy First steps answer First = answer ≡ 0
ChoosesBy (Seeded old) steps answer (Seeded new) = ChoosesNext old steps answer new
ChoosesBy First steps answer (Seeded new) = ⊥
ChoosesBy (Seeded old) steps answer First = ⊥

-- The order of a seed; without one each turn is the first that is possible
abbrev pub order_by : Option ℕ → Order
order_by None = First
order_by (Some seed) = Seeded (seeded seed)
