-- A unit that owns its program, and what an event makes of it.
use Rattle.std.specs.Prelude.{⊤, ◌≡◌, ℕ, List, []}
use Rattle.instructions.specs.Programs.{Program}
use Rattle.events.specs.declared.event.Event.{Event}
use Rattle.events.specs.declared.why.Why.{Why}
use Rattle.events.specs.Told.{Begins, Refuses, Tells}
use Rattle.replay.specs.declared.unit.Unit.{Unit as Lent}
use Rattle.ruu_judge.specs.declared.owned.OwnedUnit.{OwnedUnit}
use Rattle.ruu_judge.specs.declared.owned.Judged.{Judged}
use Rattle.ruu_judge.specs.declared.owned.Judged.TheVariants.{Legal, NoMemory, Refused}

-- The unit of a program before its first event, of these sizes
pub record IsNewUnit (P : Program) (stations accesses : ℕ) (o : OwnedUnit) : Type 0 where
  pub program : o.program ≡ P
  pub tenants : o.tenants.items ≡ []
  pub ring : o.ring ≡ stations
  pub queue : o.queue ≡ accesses
  pub tag : o.first_tag ≡ 1

-- A unit that borrows its program has the fields of one that owns it
pub record IsUnit (o : OwnedUnit) (u : Lent) : Type 0 where
  pub program : u.program.now ≡ o.program
  pub ring : u.ring ≡ o.ring
  pub queue : u.queue ≡ o.queue
  pub tag : u.first_tag ≡ o.first_tag
  pub tenants : u.tenants ≡ o.tenants

-- Legal steps that an event says lead from a unit to a later one
pub record IsLegal (o : OwnedUnit) (event : Event) (p : OwnedUnit) : Type 0 where
  pub before : Lent
  pub after : Lent
  pub was : IsUnit o before
  pub is : IsUnit p after
  pub tells : Tells before event after

-- An event is refused for a reason that is true of the unit to which its legal steps lead
pub record IsRefused (o : OwnedUnit) (event : Event) (why : Why) (p : OwnedUnit) : Type 0 where
  pub before : Lent
  pub after : Lent
  pub was : IsUnit o before
  pub is : IsUnit p after
  pub refuses : Refuses before (Begins event) why after

-- What is found of an event
abbrev pub IsVerdict : OwnedUnit → Event → Judged → Type 0
IsVerdict o event (Legal p) = IsLegal o event p
IsVerdict o event (Refused p why) = IsRefused o event why p
IsVerdict o event NoMemory = ⊤

-- Two units have the same fields
pub record IsSame (o p : OwnedUnit) : Type 0 where
  pub program : p.program ≡ o.program
  pub ring : p.ring ≡ o.ring
  pub queue : p.queue ≡ o.queue
  pub tag : p.first_tag ≡ o.first_tag
  pub tenants : p.tenants ≡ o.tenants
  pub settled : p.settled ≡ o.settled
  pub uses : p.uses ≡ o.uses
