-- The units of a session.
use Rattle.std.specs.Prelude.{◌≡◌, ◌≢◌, ℕ, List, [], Option, Some, None, option_map, slice_index_or}
use Rattle.instructions.specs.Histories.{StartsWith}
use Rattle.inorder.specs.declared.history.Entry.{Entry}
use Rattle.session.specs.declared.units.Claimed.{Claimed}
use Rattle.session.specs.declared.units.Claimed.TheVariants as claimed
use Rattle.session.specs.declared.units.Held.{Held}
use Rattle.session.specs.declared.units.UnitJob.{UnitJob}
use Rattle.session.specs.declared.replies.Producer.{Producer}
use Rattle.session.specs.declared.replies.Finished.{Finished}
use Rattle.session.specs.Accounts.{IsAwaited, IsFinish}
use Rattle.session.specs.Replies.{IsClaim}
use Rattle.station.specs.declared.answers.Claim.{Claim}
use Rattle.station.specs.declared.answers.Claim.TheVariants as claim
use Rattle.station.specs.declared.job.Job.{Job}
use Rattle.station.specs.Claiming.{Holds}
use Rattle.station.specs.Seats.{Caller, TheCore}

-- The seat's caller holds this job
abbrev pub HoldsJob : TheCore → Caller → Job → Type 0
HoldsJob core seat job = Holds core.program core.sizes seat.by seat.seen job

-- A unit of this core holds the job that is kept for it
pub record IsWorker (core : TheCore) (w : UnitJob) : Type 0 where
  pub core_is : w.seat.core ≡ core
  pub holds : (job : Job) → w.job ≡ Some job → HoldsJob core w.seat job

-- A unit holds the job that is kept for it, at the core of its seat
abbrev pub IsAtWork : UnitJob → Type 0
IsAtWork w = (job : Job) → w.job ≡ Some job → HoldsJob w.seat.core w.seat job

-- The unit at a place, if it was made
abbrev pub worker_at : List (Option UnitJob) → ℕ → Option UnitJob
worker_at units at = slice_index_or units at None

-- Each unit that was made is of this core, and holds the job that is kept for it
abbrev pub AreWorkers : TheCore → List (Option UnitJob) → Type 0
AreWorkers core units =
    (at : ℕ) (w : UnitJob) → worker_at units at ≡ Some w → IsWorker core w

-- Each unit that was made holds the job that is kept for it
abbrev pub AreAtWork : List (Option UnitJob) → Type 0
AreAtWork units = (at : ℕ) (w : UnitJob) → worker_at units at ≡ Some w → IsAtWork w

-- The job of a unit, if it was made and holds one
abbrev pub job_in : Option UnitJob → Option Job
job_in None = None
job_in (Some w) = w.job

-- The job of the unit at a place
abbrev pub job_at : List (Option UnitJob) → ℕ → Option Job
job_at units at = job_in (worker_at units at)

-- The station of the job of the unit at a place
abbrev pub station_held : List (Option UnitJob) → ℕ → Option ℕ
station_held units at = option_map (λ j. j.station) (job_at units at)

-- One unit is there now, with this number as a caller, which it had before if it was there, and this
-- job. The others are as they were
pub record HasUnit (old new : List (Option UnitJob)) (unit by : ℕ) (job : Option Job) : Type 0 where
  pub worker : UnitJob
  pub is : worker_at new unit ≡ Some worker
  pub by_is : worker.seat.by ≡ by
  pub job_is : worker.job ≡ job
  pub number : (w : UnitJob) → worker_at old unit ≡ Some w → w.seat.by ≡ by
  pub others : (at : ℕ) → at ≢ unit → worker_at new at ≡ worker_at old at

-- The job with these fields
abbrev pub held_job : Held → Job
held_job h =
    record {
      station = h.station;
      tag = h.tag;
      index = h.index;
      half = h.half;
      pc = h.pc;
      predicted = h.predicted;
      first = h.a;
      second = h.b;
    }

-- The answer of a claim, with its job
abbrev pub claim_of : Claimed → Claim
claim_of (claimed.Job held) = claim.Job (held_job held)
claim_of claimed.NotOpen = claim.NotOpen
claim_of (claimed.Waiting tag k) = claim.Waiting tag k
claim_of (claimed.Moved tag) = claim.Moved tag

-- The job that a claim gave
abbrev pub job_from : Claimed → Option Job
job_from (claimed.Job held) = Some (held_job held)
job_from answer = None

-- A unit that held no job has claimed
pub record HasClaimed (core : TheCore) (old new : List Entry) (before after : List (Option UnitJob))
    (unit station : ℕ) (answer : Claimed) : Type 0 where
  pub free : job_at before unit ≡ None
  pub by : ℕ
  pub unit_is : HasUnit before after unit by (job_from answer)
  pub says : IsClaim core by old new station (claim_of answer)

-- A unit that held no job has claimed, and behind that the producer was read that a refused claim waits for
pub record HasClaimedTold (core : TheCore) (old new : List Entry) (before after : List (Option UnitJob))
    (unit station : ℕ) (answer : Claimed) (from : Option Producer) : Type 0 where
  pub middle : List Entry
  pub claims : HasClaimed core old middle before after unit station answer
  pub from_is : IsAwaited core middle new station answer from

-- A unit has finished the job that it held of this station, and holds none
pub record UnitHasFinished (core : TheCore) (old new : List Entry) (before after : List (Option UnitJob))
    (unit station : ℕ) (answer : Finished) : Type 0 where
  pub job : Job
  pub held_it : job_at before unit ≡ Some job
  pub station_is : job.station ≡ station
  pub by : ℕ
  pub unit_is : HasUnit before after unit by None
  pub says : IsFinish core by old new job answer

-- None of them was made
abbrev pub HasNone : List (Option UnitJob) → Type 0
HasNone units = (at : ℕ) → worker_at units at ≡ None

-- What a unit has seen, if it was made
abbrev pub seen_by_unit : Option UnitJob → List Entry
seen_by_unit None = []
seen_by_unit (Some w) = w.seat.seen

-- What the unit at a place has seen
abbrev pub seen_at : List (Option UnitJob) → ℕ → List Entry
seen_at units at = seen_by_unit (worker_at units at)

-- No unit forgets what it has seen, and each keeps its job
pub record StaySeen (before after : List (Option UnitJob)) : Type 0 where
  pub keeps : (at : ℕ) → StartsWith (seen_at after at) (seen_at before at)
  pub jobs : (at : ℕ) → job_at after at ≡ job_at before at

-- One unit has seen all that was seen before, and its own is part of what is seen now
pub record UnitHasSeen (before after : List (Option UnitJob)) (unit : ℕ) (old new : List Entry) :
    Type 0 where
  pub units : StaySeen before after
  pub learns : StartsWith (seen_at after unit) old
  pub tells : StartsWith new (seen_at after unit)
