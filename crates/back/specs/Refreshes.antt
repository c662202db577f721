-- What `refresh` answers.
use Rattle.std.specs.Prelude.{◌≡◌, ◌⊎◌, ◌<◌, ℕ, List, ◌∷◌, ◌++◌}
use Rattle.std.specs.List.{AllByRecursion}
use Rattle.instructions.specs.Programs.{Program}
use Rattle.inorder.specs.declared.history.Act.TheVariants.{Load}
use Rattle.inorder.specs.declared.history.Entry.{Entry}
use Rattle.inorder.specs.declared.history.Event.{Event}
use Rattle.inorder.specs.declared.history.Event.TheVariants.{Does, Refuses}
use Rattle.inorder.specs.declared.history.Refusal.TheVariants.{Stale}
use Rattle.inorder.specs.declared.history.Step.TheVariants.{On}
use Rattle.inorder.specs.History.{unit_of}
use Rattle.inorder.specs.OneHistory.{Adds}
use Rattle.inorder.specs.Replies.{Has}
use Rattle.inorder.specs.Tenants.{Done}
use Rattle.inorder.specs.Unit.{Sizes}
use Rattle.ruu_words.specs.Kinds.{IsNamed, IsTenant}
use Rattle.station.specs.Moments.{WasOnce}
use Rattle.station.specs.Seats.{TheCore}
use Rattle.station.specs.Writeback.{IsWalk}
use Rattle.back.specs.Loads.{Blocks, IsLiveLoad, WasBlocked, WasNotWaiting}
use Rattle.back.specs.declared.answers.Refresh.{Refresh}
use Rattle.back.specs.declared.answers.Refresh.TheVariants.{Blocked, Idle, Loaded}

-- The event came too late for a load that was squashed in the meantime
abbrev pub IsTooLate : Event → Type 0
IsTooLate event = (p : ℕ) × (event ≡ Refuses (Stale p))

-- The fact is true of each tenant that was a live load when the call began
abbrev pub EachLoad : Program → Sizes → List Entry → (ℕ → Type 0) → Type 0
EachLoad P C old Fact = (p : ℕ) → Has (unit_of P C old) p (IsLiveLoad P) → Fact p

-- A load got its value, and that was carried to all who asked for it. Before it, loads may have been found
-- squashed at the last moment
pub record HasLoaded (P : Program) (C : Sizes) (by : ℕ) (old new : List Entry) (station tag value : ℕ) : Type 0 where
  pub p : ℕ
  pub tenant : IsTenant (unit_of P C new) p station tag (λ t. t.fate ≡ Done value)
  pub carried : List Event
  pub walk : IsWalk P C new p carried
  pub late : List Event
  pub are_late : AllByRecursion IsTooLate late
  pub adds : Adds P C by old new (carried ++ Does (On p Load) ∷ late)
  -- the load was the oldest that could have its value: each older one was not waiting, or was blocked, at
  -- a moment of its own within the call
  pub older : EachLoad P C old (λ o. o < p → WasNotWaiting P C old new o ⊎ WasBlocked P C old new o)

-- No load got a value
pub record HasLoadedNothing (P : Program) (C : Sizes) (by : ℕ) (old new : List Entry) : Type 0 where
  pub late : List Event
  pub are_late : AllByRecursion IsTooLate late
  pub adds : Adds P C by old new late

-- At a moment of the call the store of one station, older than the load of another, blocked it
pub record WasBlockedBy (P : Program) (C : Sizes) (old new : List Entry) (p load store : ℕ) : Type 0 where
  pub q : ℕ
  pub load_tag : ℕ
  pub store_tag : ℕ
  pub load_is : IsNamed (unit_of P C new) p load load_tag
  pub store_is : IsNamed (unit_of P C new) q store store_tag
  pub blocks : WasOnce P C old new (λ U. Blocks P U p q)

-- Of the other loads, no older one was in fate Addr, and each younger one was not, or was blocked, each
-- at a moment of its own within the call
pub record HasFoundBlocked (P : Program) (C : Sizes) (by : ℕ) (old new : List Entry) (load store : ℕ) : Type 0 where
  pub p : ℕ
  pub blocked : WasBlockedBy P C old new p load store
  pub older : EachLoad P C old (λ o. o < p → WasNotWaiting P C old new o)
  pub younger : EachLoad P C old (λ y. p < y → WasNotWaiting P C old new y ⊎ WasBlocked P C old new y)
  pub nothing : HasLoadedNothing P C by old new

-- No load was in fate Addr, each at a moment of its own within the call
pub record PortWasIdle (P : Program) (C : Sizes) (by : ℕ) (old new : List Entry) : Type 0 where
  pub each : EachLoad P C old (WasNotWaiting P C old new)
  pub nothing : HasLoadedNothing P C by old new

-- A refresh of this caller is answered so
abbrev pub RefreshAnswers : TheCore → ℕ → List Entry → List Entry → Refresh → Type 0
RefreshAnswers core by old new (Loaded station tag value) =
    HasLoaded core.program core.sizes by old new station tag value
RefreshAnswers core by old new (Blocked load store) =
    HasFoundBlocked core.program core.sizes by old new load store
RefreshAnswers core by old new Idle = PortWasIdle core.program core.sizes by old new
