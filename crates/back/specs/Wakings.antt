-- Whom the memory port wakes.
use Rattle.std.specs.Prelude.{◌≡◌, ℕ, List, [], ◌∷◌}
use Rattle.std.specs.List.{AllByRecursion}
use Rattle.instructions.specs.Programs.{Program}
use Rattle.inorder.specs.declared.history.Entry.{Entry}
use Rattle.inorder.specs.declared.history.Event.{Event}
use Rattle.inorder.specs.OneHistory.{Adds}
use Rattle.inorder.specs.Unit.{Sizes}
use Rattle.station.specs.Seats.{TheCore}
use Rattle.station.specs.Waking.{HasWoken}
use Rattle.back.specs.Refreshes.{IsTooLate}
use Rattle.back.specs.declared.answers.Refresh.{Refresh}
use Rattle.back.specs.declared.answers.Refresh.TheVariants.{Blocked, Idle, Loaded}
use Rattle.back.specs.declared.port.Tried.{Tried}
use Rattle.back.specs.declared.port.Tried.TheVariants.{Blocked as HeldBack, Loaded as Got, Passed}

-- The bits of woken stations are as they were where no event was added, and else those of what was
-- added
abbrev pub WokenSince : Program → Sizes → ℕ → List Entry → List Entry → List Event → ℕ → ℕ → Type 0
WokenSince P C by old new [] was woken = woken ≡ was
WokenSince P C by old new (e ∷ es) was woken = HasWoken P C by old new woken

-- No load got a value. Where one was found squashed at the last moment, nobody was woken since
pub record WakesNobody (P : Program) (C : Sizes) (by : ℕ) (old new : List Entry) (was woken : ℕ) :
    Type 0 where
  pub late : List Event
  pub are_late : AllByRecursion IsTooLate late
  pub adds : Adds P C by old new late
  pub since : WokenSince P C by old new late was woken

-- Whom a refresh has woken: whom the load that it answers has, if one got its value
abbrev pub RefreshWakes : TheCore → ℕ → List Entry → List Entry → ℕ → ℕ → Refresh → Type 0
RefreshWakes core by old new was woken (Loaded station tag value) =
    HasWoken core.program core.sizes by old new woken
RefreshWakes core by old new was woken (Blocked load store) =
    WakesNobody core.program core.sizes by old new was woken
RefreshWakes core by old new was woken Idle =
    WakesNobody core.program core.sizes by old new was woken

-- Whom the port's try of one load has woken
abbrev pub TryWakes : TheCore → ℕ → List Entry → List Entry → ℕ → ℕ → Tried → Type 0
TryWakes core by old new was woken (Got tag value) =
    HasWoken core.program core.sizes by old new woken
TryWakes core by old new was woken (HeldBack store) =
    WakesNobody core.program core.sizes by old new was woken
TryWakes core by old new was woken Passed =
    WakesNobody core.program core.sizes by old new was woken
