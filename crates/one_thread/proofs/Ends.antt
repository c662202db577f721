-- How a run ends.
use Rattle.std.proofs.lemmas.Grind.{common_steps}
use Rattle.std.proofs.Common.{◌≡◌, ℕ, suc, ◌+◌, ◌-◌, ◌*◌, ◌^◌, ◌<◌, ◌≤◌, true, Option, Some, None, refl, sym, ap, ◌∙◌, subst, arith, mul-le-mul_right, suc-mul, true≢false}
use Rattle.std.specs.Prelude.{is_some}
use Rattle.instructions.specs.Programs.{Program}
use Rattle.instructions.specs.declared.stop.Stop.{Stop}
use Rattle.instructions.specs.declared.end.Ending.TheVariants.{Stop as ByStop}
use Rattle.inorder.specs.Committed.{committed}
use Rattle.inorder.specs.Machine.{Goes, Halts, Ran as RanStep, State, step}
use Rattle.inorder.specs.Runs.{after, end_after, end_from, next_state, stop, stop_of, then_state, then_stop}
use Rattle.inorder.specs.Unit.{Sizes, UpdateUnit}
use Rattle.inorder.proofs.Follows.{in_order}
use Rattle.inorder.specs.Moves.{IsReached}
use Rattle.inorder.proofs.OneCaller.Sequences.{sound_of}
use Rattle.one_thread.specs.declared.bench.Turn.{Turn}
use Rattle.one_thread.specs.declared.bench.Turn.TheVariants.{Halved, Let, Loaded, Over, Ran, Recovered, Retired}
use Rattle.one_thread.specs.declared.pipeline.Pipeline.{Pipeline}
use Rattle.one_thread.specs.StandsFor.{StandsForSome, sizes}
use Rattle.one_thread.specs.Turns.{Before, EndsHere, Falls, Moves, Now, Nowhere, SizesStay, rank}
use Rattle.one_thread.proofs.Ranks.{rank_bound}

state_is : (b : Pipeline) → StandsForSome b → after b.program.now b.committed.count ≡ Some b.committed
state_is b h =
    let P = b.program.now in
    let e = (in_order P h.unit.tenants (sound_of P (sizes b) h.unit h.reached)).state in
    subst (λ s. after P s.count ≡ Some s) (sym h.stands.committed) e

-- the code of an over is that of the machine in order
over_stop : (P : Program) (C : Sizes) (U V : UpdateUnit) (c : Stop) → IsReached P C U → IsReached P C V → EndsHere P C U V c → stop P (committed P V.tenants).count ≡ Some c
over_stop P C U V c r q (Before s e) = (in_order P V.tenants (sound_of P C V q)).stops s.p s.tenant c s.is s.retired s.fate
over_stop P C U V c r q (Now k s) = (in_order P V.tenants (sound_of P C V q)).stops s.p s.tenant c s.is s.retired s.fate
over_stop P C U V c r q (Nowhere b n e) = grind (arith, common_steps, sound_of P C U r, in_order)

over_is : (b later : Pipeline) (c : Stop) → StandsForSome b → Moves b (Over c) later → SizesStay b later → stop b.program.now later.committed.count ≡ Some c
over_is b later c h t e =
    let P = b.program.now in
    let n = t h.unit h.reached h.stands in
    let same : later.committed ≡ committed P n.unit.tenants = n.stands.committed ∙ ap (λ Q. committed Q n.unit.tenants) (ap (λ p. p.now) e.program) in
    ap (λ s. stop P s.count) same ∙ over_stop P (sizes b) h.unit n.unit c h.reached n.reached n.does

-- the state after a turn is that of the machine in order
state_next : (b later : Pipeline) (answer : Turn) → StandsForSome b → Moves b answer later → SizesStay b later → after b.program.now later.committed.count ≡ Some later.committed
state_next b later answer h t e = grind (arith, common_steps, in_order, sound_of)

-- One more step of the machine in order

goes_of : (r : RanStep) (t : State) → next_state r ≡ Some t → r ≡ Goes t
goes_of r t e = grind (arith, common_steps)

halts_of : (r : RanStep) (c : Stop) → stop_of r ≡ Some c → r ≡ Halts c
halts_of r c e = grind (arith, common_steps)

end_goes : (P : Program) (k : ℕ) (s t : State) → step P s ≡ Goes t → end_from P (suc k) s ≡ end_from P k t
end_goes P k s t e = ap (end_after (end_from P k) s) e

end_halts : (P : Program) (k : ℕ) (s : State) (c : Stop) → step P s ≡ Halts c → end_from P (suc k) s ≡ (ByStop c, s)
end_halts P k s c e = ap (end_after (end_from P k) s) e

-- where the run goes on from later, it ends as from b
pub ends_same : (limit : ℕ) (b later : Pipeline) (answer : Turn) → StandsForSome b → Moves b answer later → SizesStay b later → b.committed.count < limit → ((c : Stop) → answer ≡ Over c → ⊥) →
    Falls answer b later → end_from b.program.now (limit - later.committed.count) later.committed ≡ end_from b.program.now (limit - b.committed.count) b.committed
ends_same limit b later (Recovered age) h l e q n f = ap (λ s. end_from b.program.now (limit - s.count) s) f.0
ends_same limit b later Let h l e q n f = ap (λ s. end_from b.program.now (limit - s.count) s) f.0
ends_same limit b later (Ran age) h l e q n f = ap (λ s. end_from b.program.now (limit - s.count) s) f.0
ends_same limit b later (Loaded age) h l e q n f = ap (λ s. end_from b.program.now (limit - s.count) s) f.0
ends_same limit b later Halved h l e q n f = ap (λ s. end_from b.program.now (limit - s.count) s) f.0
ends_same limit b later (Over c) h l e q n f = absurd (n c refl)
ends_same limit b later Retired h l e q n f =
    let P = b.program.now in
    let next : after P later.committed.count ≡ Some later.committed = state_next b later Retired h l e in
    let came : next_state (step P b.committed) ≡ Some later.committed = sym (ap (then_state P) (state_is b h)) ∙ sym (ap (after P) f) ∙ next in
    let k : limit - b.committed.count ≡ suc (limit - later.committed.count) = omega (arith, q, f) in
    sym (ap (λ x. end_from P x b.committed) k ∙ end_goes P (limit - later.committed.count) b.committed later.committed (goes_of (step P b.committed) later.committed came))

-- the run is over
pub ends_over : (limit : ℕ) (b later : Pipeline) (c : Stop) → StandsForSome b → Moves b (Over c) later → SizesStay b later → b.committed.count < limit → Falls (Over c) b later →
    (ByStop c, later.committed) ≡ end_from b.program.now (limit - b.committed.count) b.committed
ends_over limit b later c h t e q f =
    let P = b.program.now in
    let stops : stop_of (step P b.committed) ≡ Some c = sym (ap (then_stop P) (state_is b h)) ∙ ap (λ s. stop P s.count) (sym f) ∙ over_is b later c h t e in
    let k : limit - b.committed.count ≡ suc (limit - b.committed.count - 1) = omega (arith, q) in
    ap (λ s. (ByStop c, s)) f ∙ sym (ap (λ x. end_from P x b.committed) k ∙ end_halts P (limit - b.committed.count - 1) b.committed c (halts_of (step P b.committed) c stops))

-- The measure of a run

-- the retirements of the next instruction that are still to come, but for its last
abbrev pub halves_left : Option ℕ → ℕ
halves_left None = 1
halves_left (Some v) = 0

halves_most : (low : Option ℕ) → halves_left low ≤ 1
halves_most low = grind (arith, common_steps)

halves_none : (low : Option ℕ) → is_some low ≡ true → halves_left low ≡ 0
halves_none low e = grind (arith, common_steps, true≢false)

abbrev pub retirements_left : ℕ → ℕ → Option ℕ → ℕ
retirements_left limit count low = 2 * (limit - count) + halves_left low

abbrev pub left : ℕ → Pipeline → ℕ
left limit b = retirements_left limit b.committed.count b.low * 7 ^ 32 + rank 32 b.window

-- a turn that retires nothing
turn_falls : (limit : ℕ) (b later : Pipeline) → later.committed ≡ b.committed → later.low ≡ b.low → rank 32 later.window < rank 32 b.window → left limit later < left limit b
turn_falls limit b later c l r = grind (arith, common_steps)

-- one that does
retirement_falls : (limit : ℕ) (b later : Pipeline) → suc (retirements_left limit later.committed.count later.low) ≤ retirements_left limit b.committed.count b.low → left limit later < left limit b
retirement_falls limit b later less = grind (arith, common_steps, mul-le-mul_right (7 ^ 32) less, rank_bound 32 later.window, suc-mul)

pub left_falls : (limit : ℕ) (b later : Pipeline) (answer : Turn) → b.committed.count < limit → ((c : Stop) → answer ≡ Over c → ⊥) → Falls answer b later → left limit later < left limit b
left_falls limit b later answer h n f = grind (arith, common_steps, turn_falls, retirement_falls, halves_none, halves_most)

-- The count does not fall
pub counts_on : (b later : Pipeline) (answer : Turn) → Falls answer b later → b.committed.count ≤ later.committed.count
counts_on b later answer f = grind (arith, common_steps)
