-- A step that goes on leaves one step less of the run.
use Rattle.std.proofs.Common.{◌≡◌, ◌<◌, ◌-◌, ℕ, suc, Option, Some, None, refl, sym, ap, ◌∙◌, subst, arith}
use Rattle.instructions.specs.declared.instr.Instr.{Instr}
use Rattle.instructions.specs.declared.op.Kind.{Kind}
use Rattle.instructions.specs.declared.op.Kind.TheVariants.{Computes, Jumps, Links, Loads, Stores}
use Rattle.instructions.specs.declared.stop.Outcome.{Outcome}
use Rattle.instructions.specs.declared.stop.Outcome.TheVariants.{Pair, Value, Next, Address, Stop as Stops}
use Rattle.instructions.specs.Instruction.{kind}
use Rattle.instructions.specs.Programs.{Program, instr_at}
use Rattle.inorder.specs.declared.machine.Stepped.TheVariants.{Ran as HasRan}
use Rattle.inorder.specs.Machine.{State, Ran, Goes, Halts, after_access, ran, fetched, step}
use Rattle.inorder.specs.Runs.{Running, IsStep, end_after, end_from}
use Rattle.inorder.proofs.machine.Machine.run.Goals as goal

abbrev IsMore : State → Ran → Type 0
IsMore s (Goes t) = t.count ≡ suc s.count
IsMore s (Halts c) = Unit {0}

by_kind : (k : Kind) (s : State) (i : Instr) (a : ℕ) → IsMore s (Goes (after_access k s i a))
by_kind Computes s i a = refl
by_kind Jumps s i a = refl
by_kind Links s i a = refl
by_kind Loads s i a = refl
by_kind Stores s i a = refl

by_outcome : (s : State) (i : Instr) (o : Outcome) → IsMore s (ran s i o)
by_outcome s i (Value v) = refl
by_outcome s i (Next x) = refl
by_outcome s i (Address a) = by_kind (kind i.op) s i a
by_outcome s i (Stops c) = tt
by_outcome s i (Pair l h) = refl

by_fetch : (P : Program) (s : State) (o : Option Instr) → IsMore s (fetched P s o)
by_fetch P s None = tt
by_fetch P s (Some i) = by_outcome s i _

runs : (before later : Running) (r : Ran) → IsStep before HasRan later r → (t : State) × (r ≡ Goes t) × (later ≡ record { program = before.program; state = t })
runs before later (Goes s) h = (s, refl, h.1)
runs before later (Halts c) h = let e = h.0 in absurd (cc)

advance : (P : Program) (before later : Running) (limit : ℕ) → before.program ≡ P → before.state.count < limit → IsStep before HasRan later (step before.program before.state)
    → (later.program ≡ P) × (end_from P (limit - before.state.count) before.state ≡ end_from P (limit - later.state.count) later.state)
advance P before later limit e less h =
    let s = runs before later (step before.program before.state) h in
    let t = s.0 in
    let here : step P before.state ≡ Goes t = subst (λ Q. step Q before.state ≡ Goes t) e s.1 in
    let counted : t.count ≡ suc before.state.count = subst (IsMore before.state) here (by_fetch P before.state (instr_at P before.state.pc)) in
    let left : limit - before.state.count ≡ suc (limit - t.count) = omega (arith, counted, less) in (
      ap (λ m. m.program) s.2 ∙ e,
      ap (λ k. end_from P k before.state) left ∙ ap (end_after (end_from P (limit - t.count)) before.state) here ∙
          sym (ap (λ m. end_from P (limit - m.state.count) m.state) s.2),
    )

pub loop-self-preserved : goal.loop-self-preserved
loop-self-preserved c =
    let less : c.loop-self.self.state.count < c.args.limit = omega (arith, c.count.ensures, c.loop-self-test.true) in
    let a = advance c.args.self.now.program c.loop-self.self c.step.new.self c.args.limit c.loop-self.invariant.program less c.in-Ran.ensures in
    record { program = a.0; end = c.loop-self.invariant.end ∙ a.1 }
