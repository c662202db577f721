-- The fate of a claimed tenant, where units alone step.
use Rattle.std.specs.Prelude.{◌≡◌, ℕ, List, Some}
use Rattle.instructions.specs.Programs.{Program}
use Rattle.instructions.specs.declared.stop.Outcome.{Outcome}
use Rattle.instructions.specs.declared.stop.Outcome.TheVariants.{Value}
use Rattle.inorder.specs.declared.history.Entry.{Entry}
use Rattle.inorder.specs.History.{IsLegal, back, front, own}
use Rattle.instructions.specs.Histories.{StartsWith}
use Rattle.inorder.specs.Tenants.{Live, Tenant}
use Rattle.inorder.specs.Unit.{Sizes}
use Rattle.ruu_words.specs.Kinds.{fate_of}
use Rattle.station.specs.declared.answers.Finish.{Finish}
use Rattle.station.specs.declared.answers.Finish.TheVariants.{Finished}
use Rattle.station.specs.declared.job.Job.{Job}
use Rattle.station.specs.Claiming.{Holds, IsClaimed}
use Rattle.station.specs.Writeback.{FinishAnswers, HasTenant, job_outcome}

-- From one of these histories to the other neither the front nor the back has done anything
pub record OnlyUnits (old new : List Entry) : Type 0 where
  pub fronts : own front new ≡ own front old
  pub backs : own back new ≡ own back old

-- The tenant has not left
abbrev pub IsLive : Tenant → Type 0
IsLive t = t.standing ≡ Live

-- The tenant of this job is live
abbrev pub IsInFlight : Program → Sizes → List Entry → Job → Type 0
IsInFlight P C seen j = HasTenant P C seen j.station j.tag IsLive

-- The tenant is live and has come to this outcome, of which a value is there for its register
pub record HasOutcome (outcome : Outcome) (t : Tenant) : Type 0 where
  pub live : IsLive t
  pub fate : t.fate ≡ fate_of t.predicted outcome
  pub made : (v : ℕ) → outcome ≡ Value v → t.made ≡ Some v

-- The finish was in time, and the tenant has the outcome of its job
pub record HasFinished (P : Program) (C : Sizes) (new : List Entry) (j : Job) (answer : Finish) : Type 0 where
  pub is : answer ≡ Finished
  pub tenant : HasTenant P C new j.station j.tag (HasOutcome (job_outcome P j))

-- A tenant is live when it was claimed
abbrev pub ClaimedAreInFlight : Type 0
ClaimedAreInFlight =
    (P : Program) (C : Sizes) (by : ℕ) (old new : List Entry) (s : ℕ) (j : Job) →
    OnlyUnits old new → IsClaimed P C by old new s j → IsInFlight P C new j

-- The tenant of a job stays live while units alone step
abbrev pub JobsStayInFlight : Type 0
JobsStayInFlight =
    (P : Program) (C : Sizes) (old new : List Entry) (j : Job) →
    StartsWith new old → IsLegal P C new → OnlyUnits old new →
    IsInFlight P C old j → IsInFlight P C new j

-- The finish of a job whose tenant is live is in time, where units alone step
abbrev pub JobsAreFinished : Type 0
JobsAreFinished =
    (P : Program) (C : Sizes) (by : ℕ) (old new : List Entry) (j : Job) (answer : Finish) →
    OnlyUnits old new → Holds P C by old j → IsInFlight P C old j →
    FinishAnswers P C by old new j answer → HasFinished P C new j answer
