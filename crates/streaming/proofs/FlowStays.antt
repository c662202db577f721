-- The live tenants are taken into a flow, and put back.
use Rattle.std.proofs.lemmas.Grind.{common_steps}
use Rattle.std.proofs.Common.{◌≡◌, ◌<◌, ◌≤◌, ◌+◌, ℕ, zero, suc, List, [], ◌∷◌, ◌++◌, length, take, Some, None, sym, ap, ◌∙◌, arith, length-take-le}
use Rattle.std.proofs.lemmas.Bool.{cases_lt}
use Rattle.std.proofs.lemmas.List.{take_all}
use Rattle.std.specs.Prelude.{slice_get}
use Rattle.one_thread.specs.Changes.{registers_of}
use Rattle.streaming.specs.Flow.{Flows, IsFlow, IsFlowing, Reopens, filled, window_of}
use Rattle.streaming.specs.Reopened.{as_let, reopened}
use Rattle.one_thread.specs.StandsFor.{StandsForSome}
use Rattle.streaming.specs.declared.flow.Flow.{Flow}
use Rattle.one_thread.specs.declared.pipeline.Pipeline.{Pipeline}
use Rattle.one_thread.specs.declared.station.Station.{Station}
use Rattle.one_thread.proofs.Accesses.{accesses_most}
use Rattle.streaming.proofs.Completions.{stations_long}
use Rattle.streaming.proofs.Reopened.{none_reopened, reopened_long, reopened_older, reopened_younger}
use Rattle.streaming.proofs.Stores.{stores_few}

-- There is room in a flow

pub room_among : (b : Pipeline) (flow : Flow) (n : ℕ) → IsFlowing b flow → window_of b flow ≡ take n b.window → n < length b.window → length b.window ≤ 32 →
    (length flow.ring.completed ≡ n) × (length flow.ring.stores < 32) × (flow.accesses ≤ 32)
room_among b flow n h is less most =
    let W = window_of b flow in
    let long = stations_long b.program.now flow.ring.completed in
    let taken : length W ≡ n = ap length is ∙ length-take-le n b.window (omega (arith, less)) in
    let few = stores_few (registers_of b) W (length W) in
    let counted = accesses_most W (length W) in
    (sym long ∙ taken, omega (arith, few, ap length h.stores, taken, less, most), omega (arith, counted, h.accesses, taken, less, most))

-- A station is taken

pub take_next : {X : Type 0} → (W : List X) (i : ℕ) (w : X) → slice_get W i ≡ Some w → take (suc i) W ≡ take i W ++ w ∷ []
take_next [] i w e = absurd (cc)
take_next (x ∷ W) zero w e = let same : x ≡ w = cc in ap (λ y. y ∷ []) same
take_next (x ∷ W) (suc i) w e = ap (λ l. x ∷ l) (take_next W i w e)

pub taken : (W all : List Station) (i : ℕ) (w z : Station) → W ≡ take i all → slice_get all i ≡ Some w → z ≡ w → W ++ z ∷ [] ≡ take (i + 1) all
taken W all i w z is there same = grind (arith, common_steps, take_next)

-- and put back as it was let, or not
pub put_back : (n i : ℕ) (W : List Station) (w z : Station) → slice_get W i ≡ Some w → (i < n → z ≡ w) → (n ≤ i → z ≡ as_let w) → slice_get (reopened n W) i ≡ Some z
put_back n i W w z there older younger = grind (arith, common_steps, reopened_older, reopened_younger, cases_lt)

-- all of them are
pub all_back : (b at : Pipeline) (flow : Flow) (n k : ℕ) → at ≡ record b { window = take k (reopened n (window_of b flow)) } → length flow.ring.completed ≤ k →
    at ≡ record b { window = reopened n (window_of b flow) }
all_back b at flow n k is all = grind (arith, common_steps, stations_long, reopened_long, take_all)

-- All are

pub begun : (b : Pipeline) (flow : Flow) → StandsForSome b → 2 ≤ b.ring → length b.window ≤ b.ring → IsFlowing b flow → window_of b flow ≡ b.window → flow.last ≡ None → IsFlow b flow
begun b flow h two most flows is last = grind (arith, common_steps)

-- Nothing can enter

pub no_room : (b : Pipeline) (flow : Flow) → Flows b flow → length flow.ring.completed ≡ b.ring → 2 ≤ length (window_of b flow)
no_room b flow h full = grind (arith, common_steps, stations_long)

-- What a flow leaves

-- Where all have completed for good, they are as they are

pub all_closed : (b : Pipeline) (flow : Flow) (n : ℕ) → IsFlow b flow → n ≡ length flow.ring.completed → Reopens b flow n
all_closed b flow n h all =
    let W = window_of b flow in
    let same : n ≡ length W = all ∙ sym (stations_long b.program.now flow.ring.completed) in
    record { inside = omega (arith, same); unit = none_reopened (filled b W) n same h.unit }
