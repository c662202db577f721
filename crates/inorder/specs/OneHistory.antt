-- The headline of a unit that callers share: all that its callers did and were told is one legal
-- history. What a call answers is allowed at its point there, by the unit of what stands before;
-- whatever its caller had seen begins what it sees after the call; and at each point what is
-- committed is the state of the machine in order. The contract of each call of the shared unit
-- names what it adds; the law `one_legal_history` has what that means.
use Rattle.std.specs.Prelude.{◌≡◌, ℕ, List, ◌∷◌, ◌++◌, map}
use Rattle.instructions.specs.Programs.{Program}
use Rattle.inorder.specs.declared.history.Entry.{Entry}
use Rattle.inorder.specs.declared.history.Event.{Event}
use Rattle.inorder.specs.History.{IsLegal, MayAdd, entry, own, renewals, unit_of}
use Rattle.instructions.specs.Histories.{StartsWith}
use Rattle.inorder.specs.Theorem.{IsInOrder}
use Rattle.inorder.specs.Unit.{Sizes}

-- The history that a caller has seen has grown, with no renewal, and these events, the last one first,
-- are all that the caller added itself. Two such facts in a row are one, with the events of both
pub record Adds (P : Program) (C : Sizes) (by : ℕ) (old new : List Entry) (events : List Event) :
    Type 0 where
  pub begins : StartsWith new old
  pub legal : IsLegal P C new
  pub one_table : renewals new ≡ renewals old
  pub mine : own by new ≡ map (entry by) events ++ own by old

-- Each entry, of whichever caller, was allowed at its point: a step as the unit of those before it
-- takes it, and a refusal as it was true of that unit
abbrev pub IsAllowedThroughout : Program → Sizes → List Entry → Type 0
IsAllowedThroughout P C history =
    (later before : List Entry) (e : Entry) → history ≡ later ++ e ∷ before →
    MayAdd P C before e.by e.event

-- At each point what is committed is the state of the machine in order after as many instructions,
-- and a stop that has retired is that machine's stop
abbrev pub IsInOrderThroughout : Program → Sizes → List Entry → Type 0
IsInOrderThroughout P C history =
    (later point : List Entry) → history ≡ later ++ point → IsInOrder P (unit_of P C point).tenants

-- What a call has to do with the one legal history, by what its caller had seen and sees now
pub record OneHistory (P : Program) (C : Sizes) (by : ℕ) (old new : List Entry)
    (events : List Event) : Type 0 where
  -- what it had seen is a beginning of it
  pub goes_on : StartsWith new old
  -- each reply, of every caller, is allowed at its point
  pub allowed : IsAllowedThroughout P C new
  -- nothing that was reordered, forwarded or recovered changes what the program computes
  pub in_order : IsInOrderThroughout P C new
  -- of its own it has added these since, and nothing else
  pub mine : own by new ≡ map (entry by) events ++ own by old

-- What a call adds, it adds to one legal history
abbrev pub TellsOne : Program → Sizes → Type 0
TellsOne P C =
    (by : ℕ) (old new : List Entry) (events : List Event) → Adds P C by old new events →
    OneHistory P C by old new events

-- What two calls add, one after the other, is what both add
abbrev pub TellsOn : Program → Sizes → Type 0
TellsOn P C =
    (by : ℕ) (old between new : List Entry) (first second : List Event) →
    Adds P C by old between first → Adds P C by between new second →
    Adds P C by old new (second ++ first)
