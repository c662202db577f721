-- The deeds of a caller, by its own entries in the history that it has seen, and that its thread has counted just these.
use Rattle.std.specs.Prelude.{◌≡◌, ℕ, ◌+◌, ◌%◌, ◌^◌, false, ◌==◌, if◌then◌else◌, List, Option, Some, None, sum_by}
use Rattle.counts.specs.declared.tally.Total.{Total}
use Rattle.counts.specs.declared.tally.Total.TheVariants.{Claims, Finishes, Hints, Lets, Loads, Mends, Squashes, Stale}
use Rattle.counts.specs.Shares.{share_of}
use Rattle.counts.specs.Totals.{position_of}
use Rattle.inorder.specs.declared.history.Act.{Act}
use Rattle.inorder.specs.declared.history.Act.TheVariants.{Claim, Deliver, Finish, Link, Load, Mend, Retire, Speculate, Squash}
use Rattle.inorder.specs.declared.history.Entry.{Entry}
use Rattle.inorder.specs.declared.history.Event.{Event}
use Rattle.inorder.specs.declared.history.Event.TheVariants.{Does, Marks, Refuses}
use Rattle.inorder.specs.declared.history.Refusal.{Refusal}
use Rattle.inorder.specs.declared.history.Refusal.TheVariants.{Empty, Moved, NotDone, NotOpen, Over, Stale as IsStale, Waiting}
use Rattle.inorder.specs.declared.history.Step.{Step}
use Rattle.inorder.specs.declared.history.Step.TheVariants.{Let, On, Renew}
use Rattle.inorder.specs.History.{front, own}
use Rattle.station.specs.declared.answers.Claim.{Claim as ClaimAnswer}
use Rattle.station.specs.declared.answers.Claim.TheVariants.{Job, Moved as HasMoved, NotOpen as IsNotOpen, Waiting as Waits}
use Rattle.station.specs.declared.answers.Finish.{Finish as FinishAnswer}
use Rattle.station.specs.declared.answers.Finish.TheVariants.{Finished, Stale as CameTooLate}
use Rattle.workers.specs.declared.gathered.Gathered.{Gathered}
use Rattle.workers.specs.declared.unit.Worker.{Worker}
use Rattle.workers.specs.Gathering.{counted_of}

-- The total to which an act on a tenant adds one. A retirement is counted with its instruction, by n
abbrev pub total_of_act : Act → Option Total
total_of_act (Link k) = None
total_of_act (Deliver k) = None
total_of_act Claim = Some Claims
total_of_act Finish = Some Finishes
total_of_act Load = Some Loads
total_of_act (Retire n) = None
total_of_act Squash = Some Squashes
total_of_act (Speculate s) = None
total_of_act Mend = Some Mends

-- The total to which a step adds one. Renewals are counted by those in the history
abbrev pub total_of_step : Step → Option Total
total_of_step (Let index predicted first second) = Some Lets
total_of_step (On p act) = total_of_act act
total_of_step Renew = None

-- The total to which a refusal adds one
abbrev pub total_of_refusal : Refusal → Option Total
total_of_refusal (NotOpen s) = None
total_of_refusal (Waiting p k) = None
total_of_refusal (Moved p) = None
total_of_refusal (IsStale p) = Some Stale
total_of_refusal NotDone = None
total_of_refusal Empty = None
total_of_refusal Over = None

-- The total to which an event adds one
abbrev pub total_of : Event → Option Total
total_of (Does step) = total_of_step step
total_of (Refuses refusal) = total_of_refusal refusal
total_of (Marks mark) = None

-- One where this is the total, and else none
abbrev pub one_of : Total → Option Total → ℕ
one_of total None = 0
one_of total (Some other) = if position_of total == position_of other then 1 else 0

-- How many of these events add to a total
abbrev pub done_in : Total → List Event → ℕ
done_in total events = sum_by (λ e. one_of total (total_of e)) events

-- How many of a caller's own entries add to a total
abbrev pub deeds : Total → ℕ → List Entry → ℕ
deeds total by seen = sum_by (λ e. one_of total (total_of e.event)) (own by seen)

-- A caller has done one thing more, that adds one to this total, or nothing that adds to any
abbrev pub HasDone : ℕ → List Entry → List Entry → Option Total → Type 0
HasDone by old new one = (total : Total) → deeds total by new ≡ one_of total one + deeds total by old

-- A caller has finished each tenant that it has claimed, or learnt that the tenant was squashed
abbrev pub HasFinishedAll : ℕ → List Entry → List Entry → Type 0
HasFinishedAll by old new =
    deeds Claims by new + (deeds Finishes by old + deeds Stale by old) ≡
    deeds Finishes by new + deeds Stale by new + deeds Claims by old

-- The total to which a claim adds one, by its answer
abbrev pub total_of_claim : ClaimAnswer → Option Total
total_of_claim (Job j) = Some Claims
total_of_claim IsNotOpen = None
total_of_claim (Waits tag k) = None
total_of_claim (HasMoved tag) = None

-- The total to which a finish adds one, by its answer
abbrev pub total_of_finish : FinishAnswer → Option Total
total_of_finish Finished = Some Finishes
total_of_finish CameTooLate = Some Stale

-- A total whose deeds have entries in a history: each but the hints
abbrev pub HasEntries : Total → Type 0
HasEntries total = (position_of total == position_of Hints) ≡ false

-- Between two moments as much was counted of each of these totals as the caller has done, modulo 2^64
abbrev pub CountsDeeds : ℕ → List Entry → List Entry → Gathered → Gathered → Type 0
CountsDeeds by old new before after =
    (total : Total) → HasEntries total →
    (counted_of before total + deeds total by new) % 2 ^ 64 ≡ (counted_of after total + deeds total by old) % 2 ^ 64

-- Between two moments as much was counted as the front has done
abbrev pub CountsFrontDeeds : List Entry → List Entry → Gathered → Gathered → Type 0
CountsFrontDeeds old new before after = CountsDeeds front old new before after

-- Between two moments a worker's seat has added as much to each of these totals as its caller has done, modulo 2^64
pub record HasAddedDeeds (old new : Worker) : Type 0 where
  pub by_is : new.seat.by ≡ old.seat.by
  pub added : (total : Total) → HasEntries total →
      ((share_of total old.count.shares).added + deeds total old.seat.by new.seat.seen) % 2 ^ 64 ≡
      ((share_of total new.count.shares).added + deeds total old.seat.by old.seat.seen) % 2 ^ 64
