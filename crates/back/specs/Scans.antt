-- What was found from the head on up to a station.
use Rattle.std.specs.Prelude.{◌≡◌, ◌⊎◌, ◌<◌, ℕ, List, Option, Some, None}
use Rattle.std.specs.List.{AllByRecursion}
use Rattle.instructions.specs.Programs.{Program}
use Rattle.inorder.specs.declared.history.Entry.{Entry}
use Rattle.inorder.specs.declared.history.Event.{Event}
use Rattle.inorder.specs.History.{unit_of}
use Rattle.inorder.specs.OneHistory.{Adds}
use Rattle.inorder.specs.Replies.{Has}
use Rattle.inorder.specs.Unit.{Sizes}
use Rattle.station.specs.Moments.{WasOnce}
use Rattle.back.specs.Loads.{WasBlocked, WasNotWaiting}
use Rattle.back.specs.Port.{station_behind}
use Rattle.back.specs.Refreshes.{IsTooLate}
use Rattle.back.specs.Trials.{HoldsBack, IsLoadAt}

-- The fact is true of each tenant that was a live load of one of the stations when the call began
abbrev pub EachBehind : Program → Sizes → List Entry → (head ring k : ℕ) → (ℕ → Type 0) → Type 0
EachBehind P C old head ring k Fact =
    (j : ℕ) → j < k → (q : ℕ) → Has (unit_of P C old) q (IsLoadAt P (station_behind head ring j)) → Fact q

-- The first load that is held back, and by which store
pub record IsFirstBlocked (P : Program) (C : Sizes) (old now : List Entry) (head ring k load store : ℕ) : Type 0 where
  pub place : ℕ
  pub bound : place < k
  pub load_is : load ≡ station_behind head ring place
  pub p : ℕ
  pub when : WasOnce P C old now (HoldsBack P p (station_behind head ring place) store)
  pub before : EachBehind P C old head ring place (WasNotWaiting P C old now)

-- The first such load; or none of these stations has a load that waits
abbrev pub FirstIs : Program → Sizes → List Entry → List Entry → (head ring k : ℕ) → Option (ℕ × ℕ) → Type 0
FirstIs P C old now head ring k None = EachBehind P C old head ring k (WasNotWaiting P C old now)
FirstIs P C old now head ring k (Some b) = IsFirstBlocked P C old now head ring k b.0 b.1

-- A scan of the first k stations: what it finds, and what it has added
pub record Scanned (P : Program) (C : Sizes) (by : ℕ) (old now : List Entry) (head ring k : ℕ) (blocked : Option (ℕ × ℕ)) : Type 0 where
  pub late : List Event
  pub are_late : AllByRecursion IsTooLate late
  pub adds : Adds P C by old now late
  pub each : EachBehind P C old head ring k (λ q. WasNotWaiting P C old now q ⊎ WasBlocked P C old now q)
  pub first : FirstIs P C old now head ring k blocked
