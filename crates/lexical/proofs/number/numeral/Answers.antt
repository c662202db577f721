use Rattle.std.proofs.Common.{◌≡◌, ◌<◌, ◌&&◌, get_or, length, ◌∙◌, ap, subst, refl, arith, ℕ}
use Rattle.std.specs.Char.{digit_value, is_digit}
use Rattle.std.proofs.lemmas.Bool.{lt-ltb}
use Rattle.std.proofs.lemmas.List.Folds.{list_all_more}
use Rattle.lexical.proofs.Numbers.{capped_more}
use Rattle.lexical.proofs.number.numeral.Goals as goal

pub loop-b-preserved : goal.loop-b-preserved
loop-b-preserved c =
    let ds = c.args.digits.now in
    let i = c.loop-b.b-index in
    let lt : i < length ds = omega arith in
    let ch : c.from.result ≡ get_or ds i 0 = c.from.ensures in
    let told = c.in_ok-digit.ensures.value in
    let is : c.in_ok-digit.digit ≡ digit_value (get_or ds i 0) = told.1 ∙ ap digit_value ch in
    let passes : digit_value (get_or ds i 0) < c.args.radix = subst (λ (k : ℕ). digit_value k < c.args.radix) ch told.0 in
    record {
      small = omega arith;
      digits = list_all_more (λ d. is_digit d c.args.radix) ds i 0 lt ∙ ap (λ b. b && is_digit (get_or ds i 0) c.args.radix) c.loop-b.invariant.digits ∙ lt-ltb _ _ passes;
      value = capped_more c.args.radix c.loop-b.value _ c.in_ok-digit.digit i ds _ (omega arith) lt is (rw (c.min-value.ensures, c.from-in-loop-b.ensures, c.from-in-loop-b-2.ensures) refl)
          c.loop-b.invariant.value;
    }
