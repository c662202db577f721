-- A core that is renewed: it goes on in a new table, with first tags.
use Rattle.std.specs.Prelude.{◌≡◌, List, []}
use Rattle.std.specs.List.{AllByRecursion}
use Rattle.instructions.specs.Programs.{Program}
use Rattle.inorder.specs.declared.history.Entry.{Entry}
use Rattle.inorder.specs.declared.history.Event.TheVariants.{Does}
use Rattle.inorder.specs.declared.history.Step.TheVariants.{Renew}
use Rattle.inorder.specs.Callers.{GoesOn}
use Rattle.inorder.specs.History.{MayAdd, back, front, unit_of}
use Rattle.instructions.specs.Histories.{StartsWith}
use Rattle.inorder.specs.OneHistory.{Adds}
use Rattle.inorder.specs.Tenants.{IsNotLive}
use Rattle.inorder.specs.Unit.{Sizes, UpdateUnit}
use Rattle.ruu_words.specs.Openings.{renewed}
use Rattle.station.specs.Making.{AreFirst}
use Rattle.station.specs.Seats.{Caller, IsSameSeat, TheCore}

-- Nobody is live
abbrev pub HasNobody : UpdateUnit → Type 0
HasNobody U = AllByRecursion IsNotLive U.tenants

-- The front's seat, the back's and that of a unit
pub record Seats : Type 0 where
  pub front : Caller
  pub back : Caller
  pub unit : Caller

-- The seats of these three callers
abbrev pub seats_of : Caller → Caller → Caller → Seats
seats_of front_seat back_seat unit_seat =
    record { front = front_seat; back = back_seat; unit = unit_seat }

-- The seat `new` is the seat `old`, whose caller has looked and met
pub record HasLooked (core : TheCore) (old new : Caller) : Type 0 where
  pub same : IsSameSeat old new
  pub spare : new.spare ≡ old.spare
  pub woken : new.woken ≡ old.woken
  pub adds : Adds core.program core.sizes old.by old.seen new.seen []

-- The three have met: the front's has seen what any of them had seen, and the others have seen that
pub record HaveMet (core : TheCore) (old new : Seats) : Type 0 where
  pub front_by : old.front.by ≡ front
  pub back_by : old.back.by ≡ back
  pub front : HasLooked core old.front new.front
  pub back : HasLooked core old.back new.back
  pub unit : HasLooked core old.unit new.unit
  pub of_back : StartsWith new.front.seen old.back.seen
  pub of_unit : StartsWith new.front.seen old.unit.seen
  pub to_back : StartsWith new.back.seen new.front.seen
  pub to_unit : StartsWith new.unit.seen new.front.seen

-- The three have met, and this is what they have then seen: none of them has done anything since
pub record HaveSeen (core : TheCore) (old : Seats) (last : List Entry) : Type 0 where
  pub of_front : Adds core.program core.sizes front old.front.seen last []
  pub of_back : Adds core.program core.sizes back old.back.seen last []
  pub of_unit : Adds core.program core.sizes old.unit.by old.unit.seen last []

-- Another core goes on from that and a renewal, with the same program and sizes. The new seats have
-- seen just that
pub record IsRenewed (core : TheCore) (old : Seats) (now : TheCore) (new : Seats) : Type 0 where
  pub last : List Entry
  pub met : HaveSeen core old last
  pub may : MayAdd core.program core.sizes last front (Does Renew)
  pub program : now.program ≡ core.program
  pub sizes : now.sizes ≡ core.sizes
  pub opening : now.opening ≡ renewed last
  pub first : AreFirst now new.front new.back new.unit

-- The core is as it was, and its three seats have met
pub record IsNotRenewed (core : TheCore) (old : Seats) (now : TheCore) (new : Seats) : Type 0 where
  pub core_is : now ≡ core
  pub met : HaveMet core old new

-- Where the front has seen that nobody is live, it stays so while the front does nothing
abbrev pub NobodyStays : Type 0
NobodyStays =
    (P : Program) (C : Sizes) (old new : List Entry) → Adds P C front old new [] →
    HasNobody (unit_of P C old) → HasNobody (unit_of P C new)

-- Where the back has seen that no stop has retired, it stays so while the back does nothing
abbrev pub NoStopStays : Type 0
NoStopStays =
    (P : Program) (C : Sizes) (old new : List Entry) → Adds P C back old new [] →
    GoesOn (unit_of P C old) → GoesOn (unit_of P C new)

-- The front may renew after what it and the back have seen, where nobody was live and no stop had retired
abbrev pub EmptyCoresMayBeRenewed : Type 0
EmptyCoresMayBeRenewed =
    (P : Program) (C : Sizes) (of_front of_back new : List Entry) →
    Adds P C front of_front new [] → HasNobody (unit_of P C of_front) →
    Adds P C back of_back new [] → GoesOn (unit_of P C of_back) → MayAdd P C new front (Does Renew)
