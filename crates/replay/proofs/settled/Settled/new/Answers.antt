use Rattle.std.proofs.Common.{◌≡◌, ℕ, zero, suc, Option, None, Some, get_or, replicate, refl, ap, sym, ◌∙◌, arith}
use Rattle.std.specs.Prelude.{slice_index}
use Rattle.replay.proofs.settled.Settled.new.Goals as goal

nones : (n r : ℕ) → ◌≡◌ {A = Option ℕ} (get_or (replicate n None) r None) None
nones zero r = refl
nones (suc n) zero = refl
nones (suc n) (suc r) = nones n r

zeros : (n r : ℕ) → ◌≡◌ {A = ℕ} (slice_index (replicate n 0) r) 0
zeros zero r = refl
zeros (suc n) zero = refl
zeros (suc n) (suc r) = zeros n r

pub returns : goal.returns
returns c = record {
  within = omega arith;
  left = λ q lt. absurd (omega arith);
  goes_on = λ q stop lt. absurd (omega arith);
  whole = λ q lt. absurd (omega arith);
  path = refl;
  front = refl;
  writers = λ r lt. nones 34 r;
  registers = λ r pos lt. ap Some (sym (zeros 34 r));
  count = refl;
  bytes = λ x. ap (λ m. Some (slice_index m x)) (sym (c.in_ok-memory.ensures.items ∙ c.bytes.ensures.value));
}
