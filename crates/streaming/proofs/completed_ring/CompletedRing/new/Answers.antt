use Rattle.std.proofs.Common.{◌≡◌, ◌+◌, ◌-◌, ◌%◌, ap, sym, ◌∙◌, arith, refl}
use Rattle.std.specs.Int.Bits.{and_mask, bit_and}
use Rattle.streaming.proofs.completed_ring.CompletedRing.new.Goals as goal

pub invariant_of-result : goal.invariant_of-result
invariant_of-result c =
    let power = c.is_power.ensures c.if-not-is_power.false in
    let k = power.0 in
    let is = power.1 in
    let inside = c.requires.inside in
    let small = c.requires.small in
    let whole : c.args.size ≡ (c.args.size - 1) + 1 = omega (arith, inside) in (
      record {
        masks = λ n. ap (λ m. bit_and n (m - 1)) is ∙ and_mask n k ∙ ap (λ m. n % m) (sym is ∙ whole);
        begins = omega (arith, inside);
        most = omega arith;
        small = omega (arith, inside, small);
        every_slot = refl;
      },
      omega arith,
    )
