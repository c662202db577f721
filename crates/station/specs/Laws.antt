-- What stays true between the calls of one caller.
use Rattle.std.specs.Prelude.{◌≢◌, ◌⊎◌, ℕ, ◌<◌, List, [], ◌∷◌, length}
use Rattle.std.specs.List.{AllByRecursion}
use Rattle.instructions.specs.Programs.{Program}
use Rattle.inorder.specs.declared.history.Act.TheVariants.{Finish as FinishIt}
use Rattle.inorder.specs.declared.history.Entry.{Entry}
use Rattle.inorder.specs.declared.history.Event.{Event}
use Rattle.inorder.specs.declared.history.Event.TheVariants.{Does}
use Rattle.inorder.specs.declared.history.Source.{Source}
use Rattle.inorder.specs.declared.history.Step.TheVariants.{On, Renew}
use Rattle.inorder.specs.History.{back, entry, front, IsLegal, unit_of}
use Rattle.inorder.specs.OneHistory.{Adds}
use Rattle.inorder.specs.Unit.{Sizes}
use Rattle.station.specs.declared.answers.Claim.{Claim}
use Rattle.station.specs.declared.answers.Finish.{Finish}
use Rattle.station.specs.declared.job.Job.{Job}
use Rattle.station.specs.declared.answers.Tenant.{Tenant}
use Rattle.station.specs.Asking.{MayAsk}
use Rattle.station.specs.Claiming.{ClaimAnswers, Holds}
use Rattle.station.specs.Letting.{MayLetOut}
use Rattle.station.specs.Recovery.{SeesMiss, SeesWrongPath}
use Rattle.station.specs.Writeback.{FinishAnswers, MaySettle}

-- The event does not finish tenant p
abbrev pub IsNoFinish : ℕ → Event → Type 0
IsNoFinish p e = e ≢ Does (On p FinishIt)

-- The jobs are of two tenants
abbrev pub AreTwo : Job → Job → Type 0
AreTwo i j = (i.station ≢ j.station) ⊎ (i.tag ≢ j.tag)

-- A job stays held while its caller finishes another tenant, or none
abbrev pub JobsStay : Type 0
JobsStay =
    (P : Program) (C : Sizes) (by : ℕ) (old new : List Entry) (es : List Event) (j : Job) (h : Holds P C by old j) →
    Adds P C by old new es → AllByRecursion (IsNoFinish h.p) es → Holds P C by new j

-- A job stays held while its caller looks and meets
abbrev pub JobsStaySeen : Type 0
JobsStaySeen =
    (P : Program) (C : Sizes) (by : ℕ) (old new : List Entry) (j : Job) →
    Holds P C by old j → Adds P C by old new [] → Holds P C by new j

-- A job stays held while its caller claims
abbrev pub JobsStayClaiming : Type 0
JobsStayClaiming =
    (P : Program) (C : Sizes) (by : ℕ) (old new : List Entry) (s : ℕ) (answer : Claim) (j : Job) →
    Holds P C by old j → ClaimAnswers P C by old new s answer → Holds P C by new j

-- A job stays held while its caller finishes another job
abbrev pub JobsStayFinishing : Type 0
JobsStayFinishing =
    (P : Program) (C : Sizes) (by : ℕ) (old new : List Entry) (other : Job) (answer : Finish) (j : Job) →
    Holds P C by old j → AreTwo j other → FinishAnswers P C by old new other answer → Holds P C by new j

-- After a renewal nobody holds a job of before: stations and tags name other tenants
abbrev pub JobsEndAtARenewal : Type 0
JobsEndAtARenewal =
    (P : Program) (C : Sizes) (by : ℕ) (seen : List Entry) (j : Job) →
    ¬ Holds P C by (entry front (Does Renew) ∷ seen) j

-- The front may still do in the history `new` what it might in `old`
pub record FrontMays (P : Program) (C : Sizes) (old new : List Entry) : Type 0 where
  pub lets : (t : Tenant) → MayLetOut P C (unit_of P C old) t → MayLetOut P C (unit_of P C new) t
  pub asks : (station tag : ℕ) (k : Source) (from_station from_tag : ℕ) →
      MayAsk P C old station tag k from_station from_tag → MayAsk P C new station tag k from_station from_tag
  pub squashes : SeesWrongPath P C old → SeesWrongPath P C new
  pub mends : (station : ℕ) → SeesMiss P C old station → SeesMiss P C new station

-- The front may still do what it might as long as it has only looked and met
abbrev pub FrontsStay : Type 0
FrontsStay =
    (P : Program) (C : Sizes) (old new : List Entry) → Adds P C front old new [] → FrontMays P C old new

-- The back may still settle a load that it might as long as it has only looked and met
abbrev pub BacksStay : Type 0
BacksStay =
    (P : Program) (C : Sizes) (old new : List Entry) (station tag value : ℕ) →
    Adds P C back old new [] → MaySettle P C old station tag value → MaySettle P C new station tag value

-- A job is of an instruction of the program
abbrev pub JobsAreOfTheProgram : Type 0
JobsAreOfTheProgram =
    (P : Program) (C : Sizes) (by : ℕ) (seen : List Entry) (j : Job) →
    IsLegal P C seen → Holds P C by seen j → j.index < length P.code
