-- Where an instruction goes on is the next pc that is fixed for it, if one is.
use Rattle.std.proofs.Common.{◌≡◌, ℕ, Bool, true, false, Ok, Err, refl, sym, subst}
use Rattle.std.specs.Prelude.{IfSome, Result}
use Rattle.instructions.specs.Instruction.{fixed_next, fixed_next_by, fixed_next_if, is_first_half, kind, pc_plus_4}
use Rattle.instructions.specs.Operations.{as_address, as_value, jump_target, outcome_by, outcome_of}
use Rattle.instructions.specs.declared.instr.Instr.{Instr}
use Rattle.instructions.specs.declared.op.Half.{Half}
use Rattle.instructions.specs.declared.op.Kind.{Kind}
use Rattle.instructions.specs.declared.op.Kind.TheVariants.{Computes, Jumps, Links, Loads, Stores}
use Rattle.instructions.specs.declared.op.Op.{Op}
use Rattle.instructions.specs.declared.op.Op.TheVariants.{Beq, Bgez, Bgtz, Blez, Bltz, Bne, J, Jal, Jalr, Jr}
use Rattle.instructions.specs.declared.stop.Stop.{Stop}
use Rattle.inorder.specs.Tenants.{behind_by, next_by}
use Rattle.inorder.proofs.Pairs.{first_half_computes}

-- a value or an address leaves the next pc as it is
value_next : (r : Result ℕ Stop) (after : ℕ) → next_by after (as_value r) ≡ after
value_next (Ok v) after = refl
value_next (Err c) after = refl

address_next : (r : Result ℕ Stop) (after : ℕ) → next_by after (as_address r) ≡ after
address_next (Ok v) after = refl
address_next (Err c) after = refl

-- a jump goes on at its target, any other after itself
abbrev pub goes_to : Kind → (after target : ℕ) → ℕ
goes_to Jumps after target = target
goes_to Links after target = target
goes_to _ after target = after

module _ (pc a d size : ℕ) where
  by_kind : (k : Kind) (i : Instr) (half : Half) (after : ℕ) → next_by after (outcome_by k i half pc a d size) ≡ goes_to k after (jump_target i.op pc a d i.number)
  by_kind Computes i half after = value_next _ after
  by_kind Jumps i half after = refl
  by_kind Links i half after = refl
  by_kind Loads i half after = address_next _ after
  by_kind Stores i half after = address_next _ after

  by_op : (op : Op) (to : ℕ) → IfSome (fixed_next_by op pc to) (λ x. goes_to (kind op) (pc_plus_4 pc) (jump_target op pc a d to) ≡ x)
  unfolding jump_target
  by_op J to = refl
  by_op Jal to = refl
  by_op Jr to = tt
  by_op Jalr to = tt
  by_op Beq to = tt
  by_op Bne to = tt
  by_op Blez to = tt
  by_op Bgtz to = tt
  by_op Bltz to = tt
  by_op Bgez to = tt
  by_op _ to = refl

  is_fixed : (i : Instr) (half : Half) → IfSome (fixed_next i half pc) (λ x. goes_to (kind i.op) (behind_by (is_first_half i.op half) pc) (jump_target i.op pc a d i.number) ≡ x)
  is_fixed i half = go (is_first_half i.op half) refl
    where
      go : (b : Bool) → is_first_half i.op half ≡ b → IfSome (fixed_next_if b i pc) (λ x. goes_to (kind i.op) (behind_by b pc) (jump_target i.op pc a d i.number) ≡ x)
      go true f = subst (λ k. goes_to k pc (jump_target i.op pc a d i.number) ≡ pc) (sym (first_half_computes i.op half f)) refl
      go false f = by_op i.op i.number

  -- the next pc that an instruction computes may be predicted
  pub computed_fits : (i : Instr) (half : Half) → IfSome (fixed_next i half pc) (λ x. next_by (behind_by (is_first_half i.op half) pc) (outcome_of i half pc a d size) ≡ x)
  computed_fits i half =
      let after = behind_by (is_first_half i.op half) pc in
      subst (λ n. IfSome (fixed_next i half pc) (λ x. n ≡ x)) (sym (by_kind (kind i.op) i half after)) (is_fixed i half)
