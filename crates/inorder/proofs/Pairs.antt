-- What multiplications and divisions are: each half computes, and never stops.
use Rattle.std.proofs.Common.{◌≡◌, ℕ, Bool, true, false, ◌&&◌, Ok, refl, sym, true≢false}
use Rattle.instructions.specs.Instruction.{is_first_half, is_low, is_pair, kind}
use Rattle.instructions.specs.Operations.{computed_by}
use Rattle.instructions.specs.declared.op.Half.{Half}
use Rattle.instructions.specs.declared.op.Half.TheVariants.{Low}
use Rattle.instructions.specs.declared.op.Kind.TheVariants.{Computes}
use Rattle.instructions.specs.declared.op.Op.{Op}
use Rattle.instructions.specs.declared.op.Op.TheVariants.{Mult, Multu, Div, Divu}

none : false ≡ true → ⊥
none e = true≢false (sym e)

pub and_left : (a b : Bool) → (a && b) ≡ true → a ≡ true
and_left true b e = refl
and_left false b e = e

pub and_right : (a b : Bool) → (a && b) ≡ true → b ≡ true
and_right true b e = e
and_right false b e = absurd (none e)

-- it computes a value
pub record Makes (op : Op) (half : Half) (a b i : ℕ) : Type 0 where
  pub computes : kind op ≡ Computes
  pub value : ℕ
  pub is : computed_by op half a b i ≡ Ok value

pub pair_makes : (op : Op) (half : Half) (a b i : ℕ) → is_pair op ≡ true → Makes op half a b i
unfolding computed_by
pair_makes Mult half a b i e = record { computes = refl; value = _; is = refl }
pair_makes Multu half a b i e = record { computes = refl; value = _; is = refl }
pair_makes Div half a b i e = record { computes = refl; value = _; is = refl }
pair_makes Divu half a b i e = record { computes = refl; value = _; is = refl }
pair_makes op half a b i e = absurd (none e)

pub pair_computes : (op : Op) → is_pair op ≡ true → kind op ≡ Computes
pair_computes op e = (pair_makes op Low 0 0 0 e).computes

pub first_half_computes : (op : Op) (half : Half) → is_first_half op half ≡ true → kind op ≡ Computes
first_half_computes op half e = pair_computes op (and_left (is_pair op) (is_low half) e)
