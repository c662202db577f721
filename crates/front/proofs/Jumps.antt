-- Who can be a miss: only a jump.
use Rattle.std.proofs.Common.{◌≡◌, ◌≢◌, ℕ, Bool, true, false, length, ap, sym, ◌∙◌, refl}
use Rattle.std.specs.Prelude.{Result, Ok, Err, not, ◌&&◌, ◌||◌, ◌==◌}
use Rattle.instructions.specs.Instruction.{destination_by, is_access, target_of}
use Rattle.instructions.specs.Operations.{as_address, as_value, outcome_by}
use Rattle.instructions.specs.Programs.{Program}
use Rattle.instructions.specs.declared.op.Kind.{Kind}
use Rattle.instructions.specs.declared.op.Kind.TheVariants.{Computes, Jumps, Links, Loads, Stores}
use Rattle.instructions.specs.declared.stop.Outcome.{Outcome}
use Rattle.instructions.specs.declared.stop.Outcome.TheVariants.{Next}
use Rattle.instructions.specs.declared.stop.Stop.{Stop}
use Rattle.inorder.specs.Tenants.{Tenant, computed, instr, is_first, kind_of, operand_value}
use Rattle.inorder.proofs.Pairs.{first_half_computes}
use Rattle.front.specs.Recoveries.{may_miss}
use Rattle.front.specs.Trail.{is_link, record_of}

value_not : (r : Result ℕ Stop) (x : ℕ) → as_value r ≢ Next x
value_not (Ok v) x e = cc e
value_not (Err c) x e = cc e

address_not : (r : Result ℕ Stop) (x : ℕ) → as_address r ≢ Next x
address_not (Ok v) x e = cc e
address_not (Err c) x e = cc e

-- what is kept of a jump does not say that it is none
abbrev may_by : Kind → ℕ → Bool
may_by k r = not (is_access k) && (is_link k || destination_by k r == 0)

abbrev comes_to : Program → Tenant → Kind → Outcome
comes_to P t k = outcome_by k (instr P t) t.half t.pc (operand_value t.first) (operand_value t.second) (length P.bytes)

pub only_jumps : (P : Program) (t : Tenant) (x : ℕ) → computed P t ≡ Next x → may_miss (record_of P t) ≡ true
only_jumps P t x e = go (kind_of P t) refl
  where
    go : (k : Kind) → kind_of P t ≡ k → may_miss (record_of P t) ≡ true
    go Jumps q = ap (λ k. may_by k (target_of (instr P t) t.half)) q
    go Links q = ap (λ k. may_by k (target_of (instr P t) t.half)) q
    go Computes q = absurd (value_not _ x (sym (ap (comes_to P t) q) ∙ e))
    go Loads q = absurd (address_not _ x (sym (ap (comes_to P t) q) ∙ e))
    go Stores q = absurd (address_not _ x (sym (ap (comes_to P t) q) ∙ e))

-- nor is it the first of two halves
pub no_first_half : (P : Program) (t : Tenant) (x : ℕ) → computed P t ≡ Next x → is_first P t ≡ false
no_first_half P t x e = go (is_first P t) refl
  where
    go : (b : Bool) → is_first P t ≡ b → is_first P t ≡ false
    go true q = absurd (value_not _ x (sym (ap (comes_to P t) (first_half_computes (instr P t).op t.half q)) ∙ e))
    go false q = q
