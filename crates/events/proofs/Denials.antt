-- Reasons that deny what a let says.
use Rattle.std.proofs.Common.{◌≡◌, ◌≢◌, ℕ, ◌<◌, length, Option, Some, None, IfSome, refl, sym, ◌∙◌, subst}
use Rattle.instructions.specs.Instruction.{fixed_next}
use Rattle.instructions.specs.Programs.{Program, address, instr_at, instr_of}
use Rattle.instructions.specs.declared.instr.Instr.{Instr}
use Rattle.inorder.specs.Unit.{front_half, front_pc}
use Rattle.inorder.proofs.OneCaller.Creators.{found_at}
use Rattle.replay.specs.declared.dispatch.NoLet.{NoLet}
use Rattle.replay.specs.declared.dispatch.NoLet.TheVariants.{NoInstruction as NoSuch, NoSupply, OtherNext, OtherPc, QueueFull, RingFull}
use Rattle.replay.specs.declared.unit.Unit.{Unit as Held}
use Rattle.replay.specs.Lets.{IsNoLet}
use Rattle.replay.specs.Shown.{shown}
use Rattle.events.specs.Denied.{DeniesPath}

-- why an instruction is not let
pub path_denied : (u : Held) (pc next : Option ℕ) (index w : ℕ) (r : NoLet) → front_pc (shown u.tenants.items) ≡ address index →
    IfSome next (λ x. x ≡ w) → (next ≡ None → IfSome (fixed_next (instr_of u.program.now index) (front_half u.program.now (shown u.tenants.items))
    (front_pc (shown u.tenants.items))) (λ x. x ≡ w)) → IsNoLet u index w r → DeniesPath pc next r
path_denied u pc next index w RingFull at said fixed n = tt
path_denied u pc next index w QueueFull at said fixed n = tt
path_denied u pc next index w NoSuch at said fixed n = tt
path_denied u pc next index w (NoSupply k) at said fixed n = tt
path_denied u pc next index w (OtherPc front) at said fixed n = absurd (n.1 (sym n.0 ∙ at))
path_denied u pc None index w (OtherNext after) at said fixed n = absurd (n.1 (go n.0 (fixed refl)))
  where
    go : {o : Option ℕ} → o ≡ Some after → IfSome o (λ x. x ≡ w) → after ≡ w
    go e f = subst (λ (o : Option ℕ). IfSome o (λ x. x ≡ w)) e f
path_denied u pc (Some x) index w (OtherNext after) at said fixed n = λ e. n.1 (sym e ∙ said)

-- no instruction is at a pc
pub no_instruction : (P : Program) (pc : ℕ) → ((k : ℕ) → k < length P.code → pc ≢ address k) → instr_at P pc ≡ None
no_instruction P pc none = go (instr_at P pc) refl
  where
    go : (o : Option Instr) → instr_at P pc ≡ o → instr_at P pc ≡ None
    go None e = e
    go (Some i) e = let at = found_at P pc i e in absurd (none at.index at.inside at.pc)
