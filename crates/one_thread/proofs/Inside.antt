-- Each access of the window is inside the memory, and no store writes a register.
use Rattle.std.proofs.lemmas.Grind.{common_steps}
use Rattle.std.proofs.Common.{◌≡◌, ℕ, ◌+◌, ◌≤◌, List, ◌∷◌, length, sym, ap, ◌∙◌, subst}
use Rattle.std.proofs.Common.{arith}
use Rattle.std.specs.Prelude.{Result, slice_get}
use Rattle.instructions.specs.Instruction.{width}
use Rattle.instructions.specs.Operations.{as_value, outcome_by}
use Rattle.instructions.specs.Programs.{Program}
use Rattle.instructions.specs.declared.instr.Instr.{Instr}
use Rattle.instructions.specs.declared.op.Half.{Half}
use Rattle.instructions.specs.declared.op.Kind.{Kind}
use Rattle.instructions.specs.declared.op.Kind.TheVariants.{Loads, Stores}
use Rattle.instructions.specs.declared.stop.Outcome.TheVariants.{Address}
use Rattle.instructions.specs.declared.stop.Stop.{Stop}
use Rattle.inorder.specs.Tenants.{Addr, Tenant, computed, instr, kind_of}
use Rattle.inorder.specs.Tenants.{operand_value}
use Rattle.inorder.specs.Unit.{UpdateUnit}
use Rattle.inorder.proofs.InOrderStep.{address_in, reached_in}
use Rattle.inorder.proofs.SettledMemory.{length_memory}
use Rattle.inorder.proofs.Sound.{FateIs, IsSound, IsSoundAt}
use Rattle.inorder.proofs.OneCaller.Middle.{sound_from}
use Rattle.inorder.proofs.OneCaller.Sequences.{sound_of, stands_of}
use Rattle.one_thread.specs.declared.pipeline.Pipeline.{Pipeline}
use Rattle.one_thread.specs.Loads.{AreInside}
use Rattle.one_thread.specs.StandsFor.{StandsFor, StandsForSome, sizes}
use Rattle.one_thread.proofs.Found.{Found, found}
use Rattle.one_thread.proofs.Windows.{window_length}
use Rattle.one_thread.proofs.Fates.{addr_fate}

-- An access with its address

value_not : (r : Result ℕ Stop) (x : ℕ) → as_value r ≡ Address x → ⊥
value_not r x e = grind (arith, common_steps)

pub data IsAccess (k : Kind) : Type 0 where
  IsLoad : k ≡ Loads → IsAccess k
  IsStore : k ≡ Stores → IsAccess k

pub access_of : (k : Kind) (i : Instr) (half : Half) (pc a b size x : ℕ) → outcome_by k i half pc a b size ≡ Address x → IsAccess k
access_of k i half pc a b size x e = grind (arith, common_steps, value_not)

access_in : (k : Kind) (i : Instr) (half : Half) (pc a b size x : ℕ) → outcome_by k i half pc a b size ≡ Address x → x + width i.op ≤ size
access_in k i half pc a b size x e = grind (arith, common_steps, value_not, reached_in, address_in)

pub comes_to : (P : Program) (ts : List Tenant) (t : Tenant) (a : ℕ) → IsSoundAt P ts t → t.fate ≡ Addr a → computed P t ≡ Address a
comes_to P ts t a s e = let f : FateIs P t (Addr a) = subst (FateIs P t) e s.own.fate in f.1

inside_at : (P : Program) (ts : List Tenant) (t : Tenant) (a : ℕ) → IsSoundAt P ts t → t.fate ≡ Addr a → a + width (instr P t).op ≤ length P.bytes
inside_at P ts t a s e = access_in (kind_of P t) (instr P t) t.half t.pc (operand_value t.first) (operand_value t.second) (length P.bytes) a (comes_to P ts t a s e)

memory_size : (b : Pipeline) (U : UpdateUnit) → StandsFor b U → length b.committed.memory ≡ length b.program.now.bytes
memory_size b U s = ap (λ c. length c.memory) s.committed ∙ length_memory b.program.now U.tenants

-- each access of the window is inside the memory
pub are_inside : (b : Pipeline) → StandsForSome b → AreInside (length b.committed.memory) b.window
are_inside b h k w e a q =
    let P = b.program.now in
    let f : Found P h.unit.tenants k w = found P h.unit.tenants k w (ap (λ W. slice_get W k) (sym h.stands.window) ∙ e) in
    let sound' = sound_from P f.ys (f.t ∷ f.ts) (subst (IsSound P) f.split (sound_of P (sizes b) h.unit h.reached)) in
    let fate : f.t.fate ≡ Addr a = addr_fate f.t.fate a (ap (λ x. x.stage) f.station ∙ q) in
    let fits = inside_at P f.ts f.t a sound'.0 fate in
    let fits' : a + width w.instr.op ≤ length P.bytes = subst (λ x. a + width x.instr.op ≤ length P.bytes) f.station fits in
    subst (λ n. a + width w.instr.op ≤ n) (sym (memory_size b h.unit h.stands)) fits'

pub window_room : (b : Pipeline) → StandsForSome b → length b.window ≤ 32
window_room b h = let st = stands_of b.program.now (sizes b) h.unit h.reached in omega (arith, st.room, h.ring, window_length b.program.now h.unit.tenants, ap length h.stands.window)
