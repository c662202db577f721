-- Up to four bytes fit 32 bits.
use Rattle.std.proofs.Common.{◌≡◌, ◌<◌, ◌≤◌, ◌+◌, ◌-◌, ◌^◌, ℕ, arith, lit<, subst}
use Rattle.std.proofs.Math.Nat.{pow-le-pow_right}
use Rattle.inorder.proofs.data.number_of.Goals as goal

at_most : (i j : ℕ) → i ≤ j → 256 ^ i ≤ 256 ^ j
at_most i j h = pow-le-pow_right {n = 256} (lit< tt) {i = i} {j = j} h

pub overflow_mul-raw : goal.overflow_mul-raw
overflow_mul-raw c = let p = at_most c.loop-k.k 3 (omega arith) in omega (arith, p)

pub overflow_add-raw : goal.overflow_add-raw
overflow_add-raw c =
    let p = at_most c.loop-k.k 3 (omega arith) in
    let b = c.type_inv.memory (c.args.at + (c.args.width - 1 - c.loop-k.k)) in
    omega (arith, p, b, c.from.ensures)

pub overflow_cast-result : goal.overflow_cast-result
overflow_cast-result c = let p = at_most c.loop-k.k 4 (omega arith) in omega (arith, p)

pub returns-clause-small : goal.returns-clause-small
returns-clause-small c =
    let same : c.loop-k.k ≡ c.args.width = omega arith in
    subst (λ k. c.loop-k.raw < 256 ^ k) same c.loop-k.invariant.small
