-- Carrying a value along the links of its tenant's station.
use Rattle.std.specs.Prelude.{⊤, ◌≡◌, ℕ, ◌<◌, List, Some}
use Rattle.std.specs.List.{AllByRecursion}
use Rattle.instructions.specs.Programs.{Program}
use Rattle.instructions.specs.declared.stop.Outcome.{Outcome}
use Rattle.instructions.specs.declared.stop.Outcome.TheVariants.{Value}
use Rattle.inorder.specs.declared.history.Entry.{Entry}
use Rattle.inorder.specs.declared.history.Event.{Event}
use Rattle.inorder.specs.declared.history.Source.{Source}
use Rattle.inorder.specs.Callers.{IsServed}
use Rattle.inorder.specs.History.{unit_of}
use Rattle.inorder.specs.OneHistory.{Adds}
use Rattle.inorder.specs.Tenants.{Tenant}
use Rattle.inorder.specs.Unit.{Sizes}
use Rattle.ruu_words.specs.declared.rule.Draft.{Draft}
use Rattle.ruu_words.specs.declared.rule.Role.{Role}
use Rattle.ruu_words.specs.declared.rule.Role.TheVariants.{Back, Front, Spent, Start, Worker}
use Rattle.ruu_words.specs.Kinds.{IsNamed, IsTenant, Walks}
use Rattle.station.specs.Writeback.{HasTenant, IsCarried, IsDeliveryOf, IsWalk}

-- Units and the back write values
abbrev pub IsWriter : Role → Type 0
IsWriter Start = ⊥
IsWriter Front = ⊥
IsWriter Back = ⊤
IsWriter Worker = ⊤
IsWriter Spent = ⊥

-- The tenant has made this value
abbrev pub Makes : ℕ → Tenant → Type 0
Makes value t = t.made ≡ Some value

-- In what was seen the tenant of this station and tag has made this value
abbrev pub HasValueOf : Program → Sizes → List Entry → ℕ → ℕ → ℕ → Type 0
HasValueOf P C seen station tag value = HasTenant P C seen station tag (Makes value)

-- Sources k of station `to` that were linked to tenant q in time are served, by these deliveries or before
pub record IsServing (P : Program) (C : Sizes) (by q to : ℕ) (k : Source) (old new : List Entry) : Type 0 where
  pub events : List Event
  pub each : AllByRecursion (IsDeliveryOf P C new q) events
  pub adds : Adds P C by old new events
  pub served : IsServed (unit_of P C new) q to k

-- The stations below n are served
pub record IsCarrying (P : Program) (C : Sizes) (by q n : ℕ) (old new : List Entry) : Type 0 where
  pub events : List Event
  pub each : AllByRecursion (IsDeliveryOf P C new q) events
  pub adds : Adds P C by old new events
  pub served : (c : ℕ) (k : Source) → c < n → IsServed (unit_of P C new) q c k

-- All stations are served, and the walk is marked
pub record HasWalked (P : Program) (C : Sizes) (by q : ℕ) (old new : List Entry) : Type 0 where
  pub events : List Event
  pub walk : IsWalk P C new q events
  pub adds : Adds P C by old new events

-- A value has walked, and nothing else has
pub record HasCarried (P : Program) (C : Sizes) (by q : ℕ) (outcome : Outcome) (old new : List Entry) : Type 0 where
  pub events : List Event
  pub carried : IsCarried P C new q outcome events
  pub adds : Adds P C by old new events

-- The tenant has made the value of this outcome, if it is one
abbrev pub HasMadeOf : Program → Sizes → List Entry → ℕ → ℕ → Outcome → Type 0
HasMadeOf P C seen station tag (Value v) = HasValueOf P C seen station tag v
HasMadeOf P C seen station tag _ = ⊤

-- Of the tenant of this station and tag
abbrev pub OfTenant : Program → Sizes → List Entry → ℕ → ℕ → (ℕ → Type 0) → Type 0
OfTenant P C seen station tag Fact =
    (q : ℕ) → IsNamed (unit_of P C seen) q station tag → Fact q

-- The last load of a walk, as a kind of step
abbrev pub EndsWalk : Program → Sizes → ℕ → ℕ → List Entry → Draft → List Event → Type 0
EndsWalk P C station tag h d events = OfTenant P C h station tag (λ q. Walks P C q h d events)

-- The tenant has made this value, and all sources that were linked to it in time are served
pub record IsServedAll (P : Program) (C : Sizes) (seen : List Entry) (station tag value : ℕ) : Type 0 where
  pub q : ℕ
  pub named : IsTenant (unit_of P C seen) q station tag (Makes value)
  pub served : (c : ℕ) (k : Source) → c < C.ring → IsServed (unit_of P C seen) q c k
