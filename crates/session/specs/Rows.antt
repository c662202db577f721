-- What is told of a station, and of the ring.
use Rattle.std.specs.Prelude.{◌≡◌, ℕ, zero, suc, ◌+◌, ◌%◌, ◌<◌, ◌≤◌, Bool, true, false, List, length, Option, Some, None}
use Rattle.inorder.specs.declared.history.Entry.{Entry}
use Rattle.inorder.specs.declared.history.Source.TheVariants.{First, Second}
use Rattle.inorder.specs.Unit.{front_pc, next_station, recent}
use Rattle.back.specs.Backs.{IsSameBack, TheBack, unit_in}
use Rattle.back.specs.declared.answers.Commit.{Commit}
use Rattle.ruu_words.specs.declared.station.StationState.{StationState}
use Rattle.ruu_words.specs.declared.station.StationState.TheVariants as state
use Rattle.station.specs.declared.answers.Seen.{Seen}
use Rattle.station.specs.declared.job.Job.{Job}
use Rattle.station.specs.Seats.{TheCore}
use Rattle.session.specs.declared.replies.NextFetch.{NextFetch}
use Rattle.session.specs.declared.replies.Head.{Head}
use Rattle.session.specs.declared.replies.Row.{Row}
use Rattle.session.specs.declared.units.UnitJob.{UnitJob}
use Rattle.session.specs.Accounts.{IsOperandTold}
use Rattle.session.specs.Moments.{IsBetween}
use Rattle.session.specs.Replies.{IsCommit, IsLook}
use Rattle.session.specs.Workers.{job_at}

-- The job is of the tenant with this tag at a station
pub record IsJobAt (station tag : ℕ) (job : Job) : Type 0 where
  pub station_is : job.station ≡ station
  pub tag_is : job.tag ≡ tag

-- The unit at this place holds a job of the tenant
pub record HoldsJobOf (units : List (Option UnitJob)) (station tag at : ℕ) : Type 0 where
  pub job : Job
  pub held : job_at units at ≡ Some job
  pub of : IsJobAt station tag job

-- Who holds the job of the tenant with this tag at a station
abbrev pub IsHolder : List (Option UnitJob) → (station tag : ℕ) → Option ℕ → Type 0
IsHolder units station tag (Some at) = HoldsJobOf units station tag at
IsHolder units station tag None =
    (at : ℕ) (job : Job) → at < length units → job_at units at ≡ Some job → ¬ IsJobAt station tag job

-- The words of a station
pub record IsRowSeen (core : TheCore) (old new : List Entry) (units : List (Option UnitJob)) (station : ℕ)
    (row : Row) : Type 0 where
  pub seen : IsLook core old new station row.seen
  pub unit : IsHolder units station row.seen.tag row.unit
  pub first : IsOperandTold core old new station First row.first
  pub second : IsOperandTold core old new station Second row.second

-- A free station
abbrev pub is_free : StationState → Bool
is_free state.Free = true
is_free other = false

-- The first of two, if it is there
abbrev pub or_some : Option ℕ → ℕ → Option ℕ
or_some None s = Some s
or_some (Some r) s = Some r

-- One more station was looked at
abbrev pub head_with : Head → ℕ → Bool → Head
head_with h s true = record { station = h.station; free = h.free + 1 }
head_with h s false = record { station = or_some h.station s; free = h.free }

-- n stations were looked at, from the next tenant's on
abbrev pub AreLookedAt : TheCore → List Entry → List Entry → (tail : ℕ) → (count : ℕ) → Head → Type 0
AreLookedAt core old new tail zero head = head ≡ record { station = None; free = 0 }
AreLookedAt core old new tail (suc n) head =
    (seen : Seen StationState) × (earlier : Head)
    × AreLookedAt core old new tail n earlier
    × IsLook core old new ((tail + n) % core.sizes.ring) seen
    × (head ≡ head_with earlier ((tail + n) % core.sizes.ring) (is_free seen.state))

-- The oldest tenant's station is the first from the next tenant's on that is not free
abbrev pub IsHeadSeen : TheCore → List Entry → List Entry → (tail : ℕ) → Head → Type 0
IsHeadSeen core old new tail head = AreLookedAt core old new tail core.sizes.ring head

-- Where the path goes on, by what was seen
pub record IsAheadOf (core : TheCore) (seen : List Entry) (ahead : NextFetch) : Type 0 where
  pub station : ahead.station ≡ next_station core.sizes (recent (unit_in core seen))
  pub pc : ahead.pc ≡ front_pc (unit_in core seen).tenants

-- Where the path goes on, at a moment
abbrev pub IsAhead : TheCore → List Entry → List Entry → NextFetch → Type 0
IsAhead core old new ahead = IsBetween old new (λ before behind. IsAheadOf core behind ahead)

-- The ring: its oldest tenant, and where the path goes on
pub record IsRingTold (core : TheCore) (old new : List Entry) (head : Head) (ahead : NextFetch) : Type 0 where
  pub middle : List Entry
  pub ahead_is : IsAhead core old middle ahead
  pub head_is : IsHeadSeen core middle new ahead.station head

-- The words of the oldest tenant's station, if one is live
abbrev pub IsOldest : TheCore → List Entry → List Entry → List (Option UnitJob) → Head → Option (ℕ × Row)
    → Type 0
IsOldest core old new units head None = (s : ℕ) → head.station ≡ Some s → core.sizes.ring ≤ s
IsOldest core old new units head (Some found) =
    (head.station ≡ Some found.0) × IsRowSeen core old new units found.0 found.1

-- The oldest tenant, before a commit
pub record IsOldestTold (core : TheCore) (old new : List Entry) (units : List (Option UnitJob))
    (oldest : Option (ℕ × Row)) : Type 0 where
  pub middle : List Entry
  pub head : Head
  pub ahead : NextFetch
  pub ring : IsRingTold core old middle head ahead
  pub row : IsOldest core middle new units head oldest

-- The words of the oldest tenant's station were read, and after that the back has committed
pub record HasCommittedTold (core : TheCore) (from to : TheBack) (old new : List Entry)
    (units : List (Option UnitJob)) (commit : Commit) (oldest : Option (ℕ × Row)) : Type 0 where
  pub middle : List Entry
  pub looked : TheBack
  pub same : IsSameBack from looked
  pub oldest_is : IsOldestTold core old middle units oldest
  pub says : IsCommit looked to middle new commit
  pub shown : to.shown ≡ from.shown
