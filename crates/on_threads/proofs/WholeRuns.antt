-- Where a run ends that was seen after some of its steps.
use Rattle.std.proofs.Common.{◌≡◌, ◌∙◌, ◌+◌, ◌-◌, ◌<◌, ℕ, zero, suc, sym, ap, refl, arith, Option, Some, None}
use Rattle.instructions.specs.declared.end.Ending.{Ending}
use Rattle.instructions.specs.declared.end.Ending.TheVariants.{Limit, Stop as ByStop}
use Rattle.instructions.specs.declared.stop.Stop.{Stop}
use Rattle.instructions.specs.Programs.{Program}
use Rattle.inorder.specs.Machine.{Goes, Halts, Ran, State, start, step}
use Rattle.inorder.specs.Runs.{after, end_after, end_from, end_of, next_state, stop, stop_of, then_state, then_stop}
use Rattle.back.specs.Ends.{StopsThere}
use Rattle.committing.specs.RunEnds.{IsStopEnding}

goes : (r : Ran) (t : State) → next_state r ≡ Some t → r ≡ Goes t
goes (Goes s) t is = let same : s ≡ t = cc in ap Goes same
goes (Halts code) t is = absurd (cc)

halts : (r : Ran) (code : Stop) → stop_of r ≡ Some code → r ≡ Halts code
halts (Goes s) code is = absurd (cc)
halts (Halts other) code is = let same : other ≡ code = cc in ap Halts same

-- the state before a step
before : (P : Program) (last : Option State) (s : State) → then_state P last ≡ Some s
    → (r : State) × (last ≡ Some r) × (step P r ≡ Goes s)
before P None s is = absurd (cc)
before P (Some r) s is = (r, refl, goes (step P r) s is)

halts_at : (P : Program) (last : Option State) (s : State) (code : Stop) → last ≡ Some s → then_stop P last ≡ Some code
    → step P s ≡ Halts code
halts_at P None s code is stops = absurd (cc)
halts_at P (Some r) s code is stops =
    let same : r ≡ s = cc in
    ap (step P) (sym same) ∙ halts (step P r) code stops

-- a run that has come to a state ends as one from there
from_there : (P : Program) (n k most : ℕ) (s : State) → most ≡ n + k → after P n ≡ Some s → end_of P most ≡ end_from P k s
from_there P zero k most s sum is =
    let same : start P ≡ s = cc in
    let all : most ≡ k = omega (arith, sum) in
    ap (λ m. end_from P m (start P)) all ∙ ap (end_from P k) same
from_there P (suc n) k most s sum is =
    let b = before P (after P n) s is in
    let more : most ≡ n + suc k = omega (arith, sum) in
    from_there P n (suc k) most b.0 more b.1 ∙ ap (end_after (end_from P k) b.0) b.2

-- it has made as many steps as it may
pub at_the_limit : (P : Program) (n limit : ℕ) (s : State) → after P n ≡ Some s → n ≡ limit
    → ◌≡◌ {A = Ending × State} (Limit, s) (end_of P limit)
at_the_limit P n limit s is all = sym (from_there P n 0 limit s (omega (arith, all)) is)

stops_with : (P : Program) (n limit : ℕ) (s : State) (code : Stop) → after P n ≡ Some s → stop P n ≡ Some code → n < limit
    → ◌≡◌ {A = Ending × State} (ByStop code, s) (end_of P limit)
stops_with P n limit s code is stops below =
    let sum : limit ≡ n + suc (limit - n - 1) = omega (arith, below) in
    let rest = end_from P (limit - n - 1) in
    sym (from_there P n (suc (limit - n - 1)) limit s sum is
    ∙ ap (end_after rest s) (halts_at P (after P n) s code is stops))

-- its next step stops, and it may make one more
pub at_a_stop : (P : Program) (n limit : ℕ) (s : State) (ending : Ending) → after P n ≡ Some s → IsStopEnding ending
    → StopsThere P n ending → n < limit → ◌≡◌ {A = Ending × State} (ending, s) (end_of P limit)
at_a_stop P n limit s (ByStop code) is stopped stops below = stops_with P n limit s code is stops below
at_a_stop P n limit s Limit is stopped stops below = absurd stopped
