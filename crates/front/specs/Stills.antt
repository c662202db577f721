-- A front between two cores.
use Rattle.std.specs.Prelude.{◌≡◌, ℕ, [], List, length}
use Rattle.inorder.specs.declared.history.Entry.{Entry}
use Rattle.inorder.specs.History.{IsLegal, front, unit_of}
use Rattle.inorder.specs.OneHistory.{Adds}
use Rattle.inorder.specs.Unit.{next_station, recent}
use Rattle.station.specs.Renewals.{HasNobody, IsNotRenewed, IsRenewed, Seats}
use Rattle.station.specs.Seats.{Caller, TheCore}
use Rattle.front.specs.declared.path.base_state.Base.{Base}
use Rattle.front.specs.declared.path.counted.CountedTable.{CountedTable}
use Rattle.front.specs.CreateTable.{HasTable}
use Rattle.front.specs.Knows.{FrontKnows}
use Rattle.front.specs.Path.{rested_at}

-- The core that it left, what it had seen there, its predictor, and how often its create vector was
-- read or written
pub record TheStillFront (S : Type 0) : Type 0 where
  pub core : TheCore
  pub seen : List Entry
  pub predictor : S
  pub touched : ℕ

-- Nobody was live when the front left with this seat, and the base is all that it knows of the path
pub record FrontIsStill (seat : Caller) (base : Base) (creators : CountedTable) : Type 0 where
  pub legal : IsLegal seat.core.program seat.core.sizes seat.seen
  pub nobody : HasNobody (unit_of seat.core.program seat.core.sizes seat.seen)
  pub knows : FrontKnows seat.core.program seat.core.sizes (unit_of seat.core.program seat.core.sizes seat.seen) [] base
  pub table : HasTable seat.core.program (unit_of seat.core.program seat.core.sizes seat.seen) (rested_at base) creators.table
  pub told : rested_at base ≡ length (unit_of seat.core.program seat.core.sizes seat.seen).tenants

-- A seat of a core of the same program and sizes. Its unit has the tenants of a history that goes on
-- from what was seen by nothing of the front's: a renewal changes no tenant
pub record GoesOnForFront (core : TheCore) (seen : List Entry) (seat : Caller) : Type 0 where
  pub by_is : seat.by ≡ front
  pub program : seat.core.program ≡ core.program
  pub sizes : seat.core.sizes ≡ core.sizes
  pub last : List Entry
  pub adds : Adds core.program core.sizes front seen last []
  pub tenants : (unit_of seat.core.program seat.core.sizes seat.seen).tenants ≡ (unit_of core.program core.sizes last).tenants

-- The next tenant's station at a seat
abbrev pub next_at : TheCore → List Entry → ℕ
next_at core seen = next_station core.sizes (recent (unit_of core.program core.sizes seen))

-- The front enters a renewed core with this seat: the path goes on, at station 0
pub record FrontMayEnter (core : TheCore) (seen : List Entry) (seat : Caller) : Type 0 where
  pub goes_on : GoesOnForFront core seen seat
  pub first : next_at seat.core seat.seen ≡ 0

-- The front enters the core that it left with this seat: the path goes on where it was left
pub record FrontMayEnterAgain (core : TheCore) (seen : List Entry) (seat : Caller) : Type 0 where
  pub goes_on : GoesOnForFront core seen seat
  pub next : next_at seat.core seat.seen ≡ next_at core seen

-- A front that has left enters the renewed core with the seat that the renewal gives
abbrev pub RenewedFrontsEnter : Type 0
RenewedFrontsEnter =
    (core now : TheCore) (old new : Seats) → IsRenewed core old now new →
    FrontMayEnter core old.front.seen new.front

-- A front that has left enters the core that it left with its own seat, where the renewal was refused
abbrev pub RefusedFrontsEnter : Type 0
RefusedFrontsEnter =
    (core now : TheCore) (old new : Seats) → old.front.core ≡ core → old.front.by ≡ front →
    IsNotRenewed core old now new → FrontMayEnterAgain core old.front.seen new.front
