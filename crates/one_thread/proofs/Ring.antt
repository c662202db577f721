-- Places on the ring.
use Rattle.std.proofs.lemmas.Grind.{common_steps}
use Rattle.std.proofs.Common.{◌≡◌, ◌<◌, ℕ, suc, ◌+◌, ◌/◌, ◌%◌, arith}
use Rattle.std.proofs.Math.Nat.{add-mod_left, add-mul-mod_self_left, mod-add-div, mod-eq_of_lt}

pub mod_first : (c i n : ℕ) → (c % n + i) % n ≡ (c + i) % n
mod_first c i n = grind (arith, common_steps, mod-add-div c n, add-mul-mod_self_left (c % n + i) n (c / n))

-- once around
pub once_around : (s n r : ℕ) → s < r → suc n ≡ r → ((s + 1) % r + n) % r ≡ s
once_around s n r inside whole = grind (arith, common_steps, mod_first (s + 1) n r, add-mod_left r s, mod-eq_of_lt inside)
