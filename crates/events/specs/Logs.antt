-- What a log of events says: a legal history of the unit, or that and then an event that is refused.
use Rattle.std.specs.Prelude.{◌≡◌, ℕ, List, [], ◌∷◌, ◌++◌}
use Rattle.instructions.specs.Programs.{Program}
use Rattle.inorder.specs.declared.history.Step.{Step as UnitStep}
use Rattle.inorder.specs.Legal.{AreAllowed, Taken, reached}
use Rattle.inorder.specs.Theorem.{IsInOrder}
use Rattle.inorder.specs.Unit.{Sizes, UpdateUnit}
use Rattle.replay.specs.declared.step.Step.{Step}
use Rattle.replay.specs.declared.unit.Unit.{Unit as Held}
use Rattle.replay.specs.Lets.{sizes_of, unit_of}
use Rattle.events.specs.declared.event.Event.{Event}
use Rattle.events.specs.Following.{AreTold}
use Rattle.events.specs.Told.{Says, Tells}

-- The events are taken in their order, from one unit to a later one
abbrev pub AreTaken : Held → List Event → Held → Type 0
AreTaken u [] v = v ≡ u
AreTaken u (e ∷ es) v = (w : Held) × (Tells u e w × AreTaken w es v)

-- The first event says these steps, and the events after it the others; the last step is the first of the list
pub record SaysFirst (e : Event) (Rest : List Step → Type 0) (ss : List Step) : Type 0 where
  pub first : List Step
  pub rest : List Step
  pub is : ss ≡ rest ++ first
  pub says : Says e first
  pub others : Rest rest

-- The events, in their order, say these steps
abbrev pub Say : List Event → List Step → Type 0
Say [] ss = ss ≡ []
Say (e ∷ es) ss = SaysFirst e (Say es) ss

-- The steps of a history, without their callers
abbrev pub steps_of : List Taken → List UnitStep
steps_of [] = []
steps_of (t ∷ ts) = t.step ∷ steps_of ts

-- A legal history of the unit makes the steps that the events say, in their order, and others that no event says;
-- and what has retired is the in-order machine's state
pub record IsHistoryOf (P : Program) (C : Sizes) (events : List Event) (U : UpdateUnit) : Type 0 where
  pub history : List Taken
  pub allowed : AreAllowed P C history
  pub reaches : reached P C history ≡ U
  pub told : List Step
  pub say : Say events told
  pub are : AreTold told (steps_of history)
  pub in_order : IsInOrder P U.tenants

-- Events that are taken in turn, from a unit before its first let on, are such a history
abbrev pub EachLogIsAHistory : Type 0
EachLogIsAHistory =
    (u v : Held) (events : List Event) → u.tenants.items ≡ [] → AreTaken u events v →
    IsHistoryOf u.program.now (sizes_of u) events (unit_of v)
