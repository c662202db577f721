-- What callers have done, by what their calls answer.
use Rattle.std.proofs.Common.{◌≡◌, ℕ, ◌+◌, List, [], ◌∷◌, map, None, sum_by, ◌∙◌, refl, ap, arith}
use Rattle.std.specs.List.{AllByRecursion}
use Rattle.std.proofs.lemmas.List.Sums.{sum_by-append, sum_by-cons}
use Rattle.counts.specs.declared.tally.Total.{Total}
use Rattle.inorder.specs.declared.history.Entry.{Entry}
use Rattle.inorder.specs.declared.history.Act.TheVariants.{Finish as FinishIt}
use Rattle.inorder.specs.declared.history.Event.{Event}
use Rattle.inorder.specs.declared.history.Event.TheVariants.{Does, Marks}
use Rattle.inorder.specs.declared.history.Mark.TheVariants.{Walked}
use Rattle.inorder.specs.declared.history.Step.TheVariants.{On}
use Rattle.inorder.specs.History.{entry, own}
use Rattle.inorder.specs.OneHistory.{Adds}
use Rattle.inorder.specs.Unit.{Sizes}
use Rattle.instructions.specs.Programs.{Program}
use Rattle.instructions.specs.declared.stop.Outcome.{Outcome}
use Rattle.instructions.specs.declared.stop.Outcome.TheVariants.{Address, Next, Pair, Stop, Value}
use Rattle.workers.specs.Deeds.{HasDone, deeds, done_in, one_of, total_of, total_of_claim, total_of_finish}
use Rattle.station.specs.declared.answers.Claim.{Claim}
use Rattle.station.specs.declared.answers.Claim.TheVariants.{Job as HasJob, Moved, NotOpen, Waiting}
use Rattle.station.specs.declared.answers.Finish.{Finish}
use Rattle.station.specs.declared.answers.Finish.TheVariants.{Finished, Stale}
use Rattle.station.specs.declared.job.Job.{Job}
use Rattle.station.specs.Claiming.{ClaimAnswers}
use Rattle.station.specs.Writeback.{FinishAnswers, IsCarried, IsDeliveryOf, IsWalk, job_outcome}

-- how many of a total an event is
abbrev pub ones : Total → Event → ℕ
ones total e = one_of total (total_of e)

-- and the entries of a caller, as many as its events
entries_done : (total : Total) (by : ℕ) (events : List Event) → sum_by (λ e. ones total e.event) (map (entry by) events) ≡ done_in total events
entries_done total by [] = refl
entries_done total by (e ∷ es) =
    let all = sum_by-cons (λ (x : Entry). ones total x.event) (entry by e) (map (entry by) es) in
    let here = sum_by-cons (ones total) e es in
    let rest = entries_done total by es in
    omega (arith, all, here, rest)

-- what a caller adds it has done more
pub deeds_more : {P : Program} {C : Sizes} {by : ℕ} {old new : List Entry} {events : List Event} → Adds P C by old new events →
    (total : Total) → deeds total by new ≡ done_in total events + deeds total by old
deeds_more {P} {C} {by} {old} {new} {events} a total =
    let f : Entry → ℕ = λ e. ones total e.event in
    ap (sum_by f) a.mine ∙ sum_by-append f (map (entry by) events) (own by old) ∙ ap (λ n. n + sum_by f (own by old)) (entries_done total by events)

-- one event more
pub one_done : {P : Program} {C : Sizes} {by : ℕ} {old new : List Entry} {e : Event} → Adds P C by old new (e ∷ []) → HasDone by old new (total_of e)
one_done {P} {C} {by} {old} {new} {e} a total =
    let more = deeds_more a total in
    let one = sum_by-cons (ones total) e [] in
    omega (arith, more, one)

-- a claim
pub claim_done : (P : Program) (C : Sizes) (by : ℕ) (old new : List Entry) (s : ℕ) (answer : Claim) → ClaimAnswers P C by old new s answer → HasDone by old new (total_of_claim answer)
claim_done P C by old new s (HasJob j) a = one_done a.adds
claim_done P C by old new s NotOpen a = one_done a
claim_done P C by old new s (Waiting tag k) a = one_done a.adds
claim_done P C by old new s (Moved tag) a = one_done a.adds

deliveries_done : (total : Total) (P : Program) (C : Sizes) (seen : List Entry) (q : ℕ) (events : List Event) → AllByRecursion (IsDeliveryOf P C seen q) events → done_in total events ≡ 0
deliveries_done total P C seen q [] each = refl
deliveries_done total P C seen q (e ∷ es) each =
    let all = sum_by-cons (ones total) e es in
    let here : ones total e ≡ 0 = ap (ones total) each.0.is in
    let rest = deliveries_done total P C seen q es each.1 in
    omega (arith, all, here, rest)

pub walk_done : (total : Total) (P : Program) (C : Sizes) (seen : List Entry) (q : ℕ) (events : List Event) → IsWalk P C seen q events → done_in total events ≡ 0
walk_done total P C seen q events w =
    let is = ap (done_in total) w.is in
    let all = sum_by-cons (ones total) (Marks (Walked q)) w.deliveries in
    let none = deliveries_done total P C seen q w.deliveries w.each in
    omega (arith, is, all, none)

carried_done : (total : Total) (P : Program) (C : Sizes) (seen : List Entry) (q : ℕ) (outcome : Outcome) (events : List Event) → IsCarried P C seen q outcome events → done_in total events ≡ 0
carried_done total P C seen q (Value v) events c = walk_done total P C seen q events c
carried_done total P C seen q (Next pc) events c = ap (done_in total) c
carried_done total P C seen q (Address a) events c = ap (done_in total) c
carried_done total P C seen q (Stop code) events c = ap (done_in total) c
carried_done total P C seen q (Pair low high) events c = ap (done_in total) c

-- a finish
pub finish_done : (P : Program) (C : Sizes) (by : ℕ) (old new : List Entry) (j : Job) (answer : Finish) → FinishAnswers P C by old new j answer → HasDone by old new (total_of_finish answer)
finish_done P C by old new j Finished w total =
    let more = deeds_more w.adds total in
    let all = sum_by-append (ones total) w.behind (Does (On w.p FinishIt) ∷ []) in
    let one = sum_by-cons (ones total) (Does (On w.p FinishIt)) [] in
    let none = carried_done total P C new w.p (job_outcome P j) w.behind w.carried in
    omega (arith, more, all, one, none)
finish_done P C by old new j Stale w total = one_done w.adds total
