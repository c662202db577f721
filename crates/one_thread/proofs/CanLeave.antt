-- When the oldest tenant can leave.
use Rattle.std.proofs.Common.{arith}
use Rattle.std.proofs.lemmas.Grind.{common_steps}
use Rattle.std.proofs.Common.{rules, ◌≡◌, ℕ, ◌<◌, Bool, true, false, cond, List, [], ◌∷◌, length, Option, Some, None, refl, sym, ap, ◌∙◌, subst}
use Rattle.std.specs.Prelude.{slice_get, slice_index}
use Rattle.std.proofs.lemmas.Option.{slice_get_within}
use Rattle.instructions.specs.Instruction.{first_of, kind, second_of}
use Rattle.instructions.specs.declared.op.Kind.{Kind}
use Rattle.inorder.specs.Tenants.{Addr, instr, kind_of}
use Rattle.inorder.specs.Tenants.{operand_value}
use Rattle.inorder.proofs.Sound.{IsSound}
use Rattle.inorder.proofs.OneCaller.Middle.{sound_from}
use Rattle.inorder.proofs.OneCaller.Sequences.{sound_of}
use Rattle.one_thread.specs.declared.execute.Operands.{Operands}
use Rattle.one_thread.specs.declared.pipeline.Pipeline.{Pipeline}
use Rattle.one_thread.specs.declared.station.Stage.{Stage}
use Rattle.one_thread.specs.declared.station.Stage.TheVariants.{Open as Opens, Addr as HasAddr, Done as IsDone, Miss as Misses, Stops}
use Rattle.one_thread.specs.declared.station.Station.{Station}
use Rattle.one_thread.specs.Changes.{registers_of}
use Rattle.one_thread.specs.Producers.{given_at, gives}
use Rattle.one_thread.specs.Leaves.{HasEnded, OldestHasEnded}
use Rattle.one_thread.specs.Steps.{IsFirstStep}
use Rattle.one_thread.specs.StandsFor.{StandsForSome, sizes}
use Rattle.one_thread.specs.Window.{operands_by, operands_in, source_in, where_open}
use Rattle.one_thread.proofs.Found.{Found, found}
use Rattle.one_thread.specs.Notes.{settled_at, settled_by}
use Rattle.one_thread.proofs.Inside.{IsAccess, access_of, are_inside, comes_to}
use Rattle.one_thread.proofs.Fates.{addr_fate}
use Rattle.inorder.specs.Unit.{can_be_written}

pub source_first : (g : List ℕ) (r : ℕ) → (v : ℕ) × (source_in g [] r ≡ Some v)
source_first g r = go (can_be_written r)
  where
    go : (x : Bool) → (v : ℕ) × (cond x (Some (slice_index g r)) (Some 0) ≡ Some v)
    go true = (slice_index g r, refl)
    go false = (0, refl)

pub both_there : (k : Kind) (x y : ℕ) → operands_by k (Some x) (Some y) ≡ Some (record { a = x; b = y })
both_there k x y = search rules

first_ready : (g : List ℕ) (k : Kind) (r q : ℕ) → (o : Operands) × (operands_by k (source_in g [] r) (source_in g [] q) ≡ Some o)
first_ready g k r q =
    let x = source_first g r in
    let y = source_first g q in
    (_, ap (λ v. operands_by k v (source_in g [] q)) x.1 ∙ ap (operands_by k (Some x.0)) y.1 ∙ both_there k x.0 y.0)

-- a live tenant with an address is a load or a store
access_at : (b : Pipeline) → StandsForSome b → (w : Station) (a : ℕ) → slice_get b.window 0 ≡ Some w → w.stage ≡ HasAddr a → IsAccess (kind w.instr.op)
access_at b h w a e q =
    let P = b.program.now in
    let f : Found P h.unit.tenants 0 w = found P h.unit.tenants 0 w (ap (λ W. slice_get W 0) (sym h.stands.window) ∙ e) in
    let sound' = (sound_from P f.ys (f.t ∷ f.ts) (subst (IsSound P) f.split (sound_of P (sizes b) h.unit h.reached))).0 in
    let fate : f.t.fate ≡ Addr a = addr_fate f.t.fate a (ap (λ x. x.stage) f.station ∙ q) in
    subst (λ x. IsAccess (kind x.instr.op)) f.station
    (access_of (kind_of P f.t) (instr P f.t) f.t.half f.t.pc (operand_value f.t.first) (operand_value f.t.second) (length P.bytes) a
    (comes_to P f.ts f.t a sound' fate))

-- Where nothing else can be done the oldest has ended
pub refused_settles : (b : Pipeline) → StandsForSome b → IsFirstStep b None → (w : Station) → slice_get b.window 0 ≡ Some w → settled_by (kind w.instr.op) w.stage ≡ true
refused_settles b h f w e = some w.stage refl
  where
    regs : List ℕ
    regs = registers_of b

    full : 0 < length b.window
    full = slice_get_within b.window 0 w e

    access : (a : ℕ) → w.stage ≡ HasAddr a → IsAccess (kind w.instr.op) → settled_by (kind w.instr.op) (HasAddr a) ≡ true
    access a q h2 = grind (arith, common_steps, regs, full)

    some : (g : Stage) → w.stage ≡ g → settled_by (kind w.instr.op) w.stage ≡ true
    some IsDone q = ap (settled_by (kind w.instr.op)) q
    some (Stops c) q = ap (settled_by (kind w.instr.op)) q
    some (Misses x) q = grind (arith, common_steps, full)
    some Opens q =
        let o = first_ready regs (kind w.instr.op) (first_of w.instr) (second_of w.instr) in
        let is : gives (operands_in regs) b.window 0 ≡ Some o.0 = ap (λ x. given_at (operands_in regs) b.window x 0) e ∙
        ap (λ g. where_open g (operands_by (kind w.instr.op) (source_in regs [] (first_of w.instr)) (source_in regs [] (second_of w.instr)))) q ∙ o.1 in
        let no : Some o.0 ≡ None = sym is ∙ f.2 0 full in
        absurd (cc)
    some (HasAddr a) q = ap (settled_by (kind w.instr.op)) q ∙ access a q (access_at b h w a e q)

-- An oldest that has ended, or is a store with its address, can leave
pub settled_leaves : (b : Pipeline) → StandsForSome b → (w : Station) → slice_get b.window 0 ≡ Some w → settled_by (kind w.instr.op) w.stage ≡ true →
    HasEnded (length b.committed.memory) w.instr w.stage
settled_leaves b h w e s = grind (arith, common_steps, are_inside)

-- The oldest, if there is one, can leave

pub some_leaves : (b : Pipeline) → StandsForSome b → settled_at (slice_get b.window 0) ≡ true → OldestHasEnded (length b.committed.memory) (slice_get b.window 0)
some_leaves b h s = go (slice_get b.window 0) refl
  where
    go : (o : Option Station) → slice_get b.window 0 ≡ o → OldestHasEnded (length b.committed.memory) o
    go None e = tt
    go (Some w) e = settled_leaves b h w e (sym (ap settled_at e) ∙ s)
