-- All seats of a core in one hand.
use Rattle.std.specs.Prelude.{◌≡◌, ◌≢◌, ◌⊎◌, ℕ, []}
use Rattle.instructions.specs.Programs.{Program}
use Rattle.instructions.specs.Settings.{Settings}
use Rattle.inorder.specs.History.{IsUnit, back, front, own}
use Rattle.instructions.specs.Histories.{StartsWith}
use Rattle.inorder.specs.OneHistory.{Adds}
use Rattle.ruu_words.specs.Views.{IsSpare}
use Rattle.station.specs.Paths.{IsTakenOver}
use Rattle.station.specs.Seats.{unit_seen, Caller, TheCore}
use Rattle.client.specs.declared.seats.Seats.{Seats}

-- The number of one of the two units, or one that no seat was made for
abbrev pub IsUnits : Seats → ℕ → Type 0
IsUnits s n =
    (n ≡ s.one.by) ⊎ ((n ≡ s.other.by) ⊎ (IsSpare s.one.spare n ⊎ IsSpare s.other.spare n))

-- They are of this core, whose opening the front and the first unit have seen; the units are two, and
-- there is no third
pub record AreAll (core : TheCore) (s : Seats) : Type 0 where
  pub front_opened : StartsWith s.front.seen core.opening
  pub one_opened : StartsWith s.one.seen core.opening
  pub front_core : s.front.core ≡ core
  pub back_core : s.back.core ≡ core
  pub one_core : s.one.core ≡ core
  pub other_core : s.other.core ≡ core
  pub front_by : s.front.by ≡ front
  pub back_by : s.back.by ≡ back
  pub one_by : IsUnit s.one.by
  pub other_by : IsUnit s.other.by
  pub two : s.other.by ≢ s.one.by
  pub no_third : (n : ℕ) → IsUnit n → IsUnits s n

-- The front has seen what the units have seen
pub record KnowsUnits (s : Seats) : Type 0 where
  pub one : StartsWith s.front.seen s.one.seen
  pub other : StartsWith s.front.seen s.other.seen

-- A core for this program and configuration, and its seats, which have seen nothing
pub record AreNew (P : Program) (config : Settings) (core : TheCore) (s : Seats) : Type 0 where
  pub program : core.program ≡ P
  pub sizes : core.sizes ≡
      record { ring = config.ring; queue = config.queue; first_tag = config.first_tag }
  pub all : AreAll core s
  pub front_seen : s.front.seen ≡ []
  pub back_seen : s.back.seen ≡ []
  pub one_seen : s.one.seen ≡ []
  pub other_seen : s.other.seen ≡ []
  pub fresh : own s.other.by s.other.seen ≡ []

-- The seat w is the seat v, whose caller has looked and met
pub record HasHeardMore (core : TheCore) (v w : Caller) : Type 0 where
  pub core_is : w.core ≡ v.core
  pub by_is : w.by ≡ v.by
  pub spare_is : w.spare ≡ v.spare
  pub adds : Adds core.program core.sizes v.by v.seen w.seen []

-- The first unit has heard of all that the others had seen, and they of what it had
pub record HaveHeard (core : TheCore) (s t : Seats) : Type 0 where
  pub front : HasHeardMore core s.front t.front
  pub back : HasHeardMore core s.back t.back
  pub one : HasHeardMore core s.one t.one
  pub other : HasHeardMore core s.other t.other
  pub of_front : StartsWith t.one.seen t.front.seen
  pub of_back : StartsWith t.one.seen t.back.seen
  pub of_other : StartsWith t.one.seen t.other.seen
  pub to_front : StartsWith t.front.seen s.one.seen
  pub to_back : StartsWith t.back.seen s.one.seen
  pub to_other : StartsWith t.other.seen s.one.seen
  -- in all of it there is no entry of a unit that has no seat, after those with which the core opened
  pub no_more_of_one : (n : ℕ) → IsSpare t.one.spare n → own n t.one.seen ≡ own n core.opening
  pub no_more_of_other : (n : ℕ) → IsSpare t.other.spare n → own n t.other.seen ≡ own n core.opening

-- They have met twice: what anybody knew after the first time, each knows after the second
pub record HaveMetTwice (core : TheCore) (s u : Seats) : Type 0 where
  pub once : Seats
  pub all : AreAll core once
  pub first : HaveHeard core s once
  pub second : HaveHeard core once u

-- They are the seats of a renewed core, which is for the program of the old one, and of its sizes. The
-- path goes on where the front had left it, at station 0 with the first tag
pub record AreSeatsRenewed (old : TheCore) (before : Seats) (core : TheCore) (s : Seats) : Type 0 where
  pub program : core.program ≡ old.program
  pub sizes : core.sizes ≡ old.sizes
  pub all : AreAll core s
  pub knows : KnowsUnits s
  pub path : IsTakenOver old core (unit_seen old before.front) (unit_seen core s.front)
