-- A unit at work, and how it stops.
use Rattle.std.specs.Prelude.{◌≡◌}
use Rattle.atomic_table.specs.Seated.{TableId}
use Rattle.hints.specs.Hinted.{TheHints}
use Rattle.workers.specs.Deeds.{CountsDeeds}
use Rattle.workers.specs.Hinting.{Searches}
use Rattle.workers.specs.declared.unit.Unit.{Unit}
use Rattle.station.specs.Seats.{TheCore}

-- A unit works at this core, adds to the run's totals, and looks for work in the run's hints
pub record Works (core : TheCore) (counts : TableId) (hints : TheHints) (unit : Unit) : Type 0 where
  pub core_is : unit.seat.core ≡ core
  pub count_is : unit.count.seat.of ≡ counts
  pub searches : Searches hints unit.search

-- Between two moments the unit has counted just its deeds, with those that are gathered and not added yet
pub record HasCountedDeeds (old new : Unit) : Type 0 where
  pub by_is : new.seat.by ≡ old.seat.by
  pub deeds : CountsDeeds old.seat.by old.seat.seen new.seat.seen old.count new.count
