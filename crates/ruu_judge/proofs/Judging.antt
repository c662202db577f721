-- A unit that owns its program, after an event.
use Rattle.std.proofs.Common.{◌≡◌, subst}
use Rattle.events.specs.declared.event.Event.{Event}
use Rattle.events.specs.declared.why.Why.{Why}
use Rattle.events.specs.Told.{Begins, Refuses, Tells}
use Rattle.replay.specs.declared.unit.Unit.{Unit as Lent}
use Rattle.replay.specs.Settlement.{IsSettled}
use Rattle.ruu_judge.specs.declared.owned.OwnedUnit.{OwnedUnit}
use Rattle.ruu_judge.specs.Units.{IsLegal, IsRefused, IsUnit}

-- after an event that is taken, and one that is refused, the program is what it was
pub taken_settles : (u v : Lent) (event : Event) → Tells u event v → IsSettled u.program.now v.tenants.items v.settled
taken_settles u v event t = subst (λ p. IsSettled p v.tenants.items v.settled) t.follows.program v.settles

pub refused_settles : (u v : Lent) (event : Event) (why : Why) → Refuses u (Begins event) why v → IsSettled u.program.now v.tenants.items v.settled
refused_settles u v event why r = subst (λ p. IsSettled p v.tenants.items v.settled) r.follows.program v.settles

-- what is true of units that borrow their program is true of those that own it
pub legal : (u v : Lent) (event : Event) → Tells u event v → (o p : OwnedUnit) → IsUnit o u → IsUnit p v → IsLegal o event p
legal u v event tells o p was is = record { before = u; after = v; was = was; is = is; tells = tells }

pub refused : (u v : Lent) (event : Event) (why : Why) → Refuses u (Begins event) why v → (o p : OwnedUnit) → IsUnit o u → IsUnit p v → IsRefused o event why p
refused u v event why refuses o p was is = record { before = u; after = v; was = was; is = is; refuses = refuses }
