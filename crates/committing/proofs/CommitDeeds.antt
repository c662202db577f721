-- The deeds of the back, by the answers of its calls.
use Rattle.std.proofs.Common.{◌≡◌, ℕ, ◌+◌, List, [], ◌∷◌, refl, ap, arith}
use Rattle.std.specs.List.{AllByRecursion}
use Rattle.std.proofs.lemmas.List.Sums.{sum_by-append, sum_by-cons}
use Rattle.counts.specs.declared.tally.Total.TheVariants.{Loads}
use Rattle.inorder.specs.declared.history.Act.TheVariants.{Load}
use Rattle.inorder.specs.declared.history.Entry.{Entry}
use Rattle.inorder.specs.declared.history.Event.{Event}
use Rattle.inorder.specs.declared.history.Event.TheVariants.{Does}
use Rattle.inorder.specs.declared.history.Step.TheVariants.{On}
use Rattle.inorder.specs.History.{renewals}
use Rattle.inorder.specs.OneHistory.{Adds}
use Rattle.inorder.specs.Unit.{Sizes}
use Rattle.instructions.specs.Programs.{Program}
use Rattle.back.specs.declared.answers.Refresh.{Refresh}
use Rattle.back.specs.declared.answers.Refresh.TheVariants.{Blocked, Idle, Loaded}
use Rattle.back.specs.Refreshes.{HasLoaded, HasLoadedNothing, IsTooLate, RefreshAnswers}
use Rattle.station.specs.Seats.{TheCore}
use Rattle.workers.specs.Deeds.{deeds, done_in}
use Rattle.workers.proofs.Deeds.{deeds_more, ones, walk_done}

-- a history with no load and no renewal more
pub record HasKept (by : ℕ) (old new : List Entry) : Type 0 where
  pub loads : deeds Loads by new ≡ deeds Loads by old
  pub times : renewals new ≡ renewals old

-- a history with one load more, and no renewal
pub record HasOneLoad (by : ℕ) (old new : List Entry) : Type 0 where
  pub loads : deeds Loads by new ≡ deeds Loads by old + 1
  pub times : renewals new ≡ renewals old

-- who came too late has loaded nothing
late_done : (events : List Event) → AllByRecursion IsTooLate events → done_in Loads events ≡ 0
late_done [] late = refl
late_done (e ∷ es) late =
    let all = sum_by-cons (ones Loads) e es in
    let here : ones Loads e ≡ 0 = ap (ones Loads) late.0.1 in
    let rest = late_done es late.1 in
    omega (arith, all, here, rest)

-- a load
pub loaded_done : (P : Program) (C : Sizes) (by : ℕ) (old new : List Entry) (station tag value : ℕ) → HasLoaded P C by old new station tag value → HasOneLoad by old new
loaded_done P C by old new station tag value w =
    let more = deeds_more w.adds Loads in
    let event = Does (On w.p Load) in
    let all = sum_by-append (ones Loads) w.carried (event ∷ w.late) in
    let one = sum_by-cons (ones Loads) event w.late in
    let none = walk_done Loads P C new w.p w.carried w.walk in
    let late = late_done w.late w.are_late in
    record { loads = omega (arith, more, all, one, none, late); times = w.adds.one_table }

nothing_done : (P : Program) (C : Sizes) (by : ℕ) (old new : List Entry) → HasLoadedNothing P C by old new → HasKept by old new
nothing_done P C by old new w =
    let more = deeds_more w.adds Loads in
    let late = late_done w.late w.are_late in
    record { loads = omega (arith, more, late); times = w.adds.one_table }

-- a refresh that found no load
pub not_loaded : (core : TheCore) (by : ℕ) (old new : List Entry) (answer : Refresh) → RefreshAnswers core by old new answer
    → ((s t v : ℕ) → answer ≡ Loaded s t v → ⊥) → HasKept by old new
not_loaded core by old new (Loaded s t v) w other = absurd (other s t v refl)
not_loaded core by old new (Blocked load store) w other = nothing_done core.program core.sizes by old new w.nothing
not_loaded core by old new Idle w other = nothing_done core.program core.sizes by old new w.nothing

-- a look and a meeting
pub looked_on : {P : Program} {C : Sizes} {by : ℕ} {old new : List Entry} → Adds P C by old new [] → HasKept by old new
looked_on a =
    let more = deeds_more a Loads in
    record { loads = omega (arith, more); times = a.one_table }
