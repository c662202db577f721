-- A back between two cores.
use Rattle.std.specs.Prelude.{◌≡◌, ℕ, List, []}
use Rattle.inorder.specs.declared.history.Entry.{Entry}
use Rattle.inorder.specs.Callers.{head_station}
use Rattle.inorder.specs.History.{back}
use Rattle.inorder.specs.OneHistory.{Adds}
use Rattle.snapshots.specs.declared.snap.Snap.{Snap}
use Rattle.station.specs.Renewals.{IsNotRenewed, IsRenewed, Seats}
use Rattle.station.specs.Seats.{Caller, TheCore}
use Rattle.back.specs.Backs.{TheBack, unit_in}

-- The core that it left, what it had seen there, and the snapshot that it showed last
pub record TheStillBack : Type 0 where
  pub core : TheCore
  pub seen : List Entry
  pub shown : Snap

-- A back without its core
abbrev pub still_of : TheBack → TheStillBack
still_of b = record { core = b.core; seen = b.seen; shown = b.shown }

-- A seat of a core of the same program and sizes. Its unit has the tenants of a history that goes on
-- from what was seen by nothing of the back's: a renewal changes no tenant
pub record GoesOnForBack (core : TheCore) (seen : List Entry) (seat : Caller) : Type 0 where
  pub by_is : seat.by ≡ back
  pub program : seat.core.program ≡ core.program
  pub sizes : seat.core.sizes ≡ core.sizes
  pub last : List Entry
  pub adds : Adds core.program core.sizes back seen last []
  pub tenants : (unit_in seat.core seat.seen).tenants ≡ (unit_in core last).tenants

-- The station of the oldest live tenant at a seat, or of the next one if nobody is live
abbrev pub head_at : TheCore → List Entry → ℕ
head_at core seen = head_station core.sizes (unit_in core seen)

-- The back enters a renewed core with this seat: the oldest live tenant is looked for at station 0
pub record BackMayEnter (core : TheCore) (seen : List Entry) (seat : Caller) : Type 0 where
  pub goes_on : GoesOnForBack core seen seat
  pub first : head_at seat.core seat.seen ≡ 0

-- The back enters the core that it left with this seat: the oldest live tenant is looked for where it
-- was
pub record BackMayEnterAgain (core : TheCore) (seen : List Entry) (seat : Caller) : Type 0 where
  pub goes_on : GoesOnForBack core seen seat
  pub head : head_at seat.core seat.seen ≡ head_at core seen

-- A back that has left enters the renewed core with the seat that the renewal gives
abbrev pub RenewedBacksEnter : Type 0
RenewedBacksEnter =
    (core now : TheCore) (old new : Seats) → IsRenewed core old now new →
    BackMayEnter core old.back.seen new.back

-- A back that has left enters the core that it left with its own seat, where the renewal was refused
abbrev pub RefusedBacksEnter : Type 0
RefusedBacksEnter =
    (core now : TheCore) (old new : Seats) → old.back.core ≡ core → old.back.by ≡ back →
    IsNotRenewed core old now new → BackMayEnterAgain core old.back.seen new.back
