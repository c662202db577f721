-- A term of a run: how it begins, and how it ends.
use Rattle.std.specs.Prelude.{◌≡◌, List, None}
use Rattle.atomic_table.specs.Seated.{TableId}
use Rattle.counts.specs.Seats.{Counter}
use Rattle.front.specs.Fronts.{IsUnused}
use Rattle.front.specs.Stills.{FrontMayEnter, TheStillFront}
use Rattle.inorder.specs.declared.history.Entry.{Entry}
use Rattle.inorder.specs.History.{unit_of}
use Rattle.instructions.specs.Settings.{Settings}
use Rattle.station.specs.Renewals.{HasNobody}
use Rattle.station.specs.Seats.{Caller, TheCore}
use Rattle.workers.specs.Configured.{configured_sizes}
use Rattle.pool.specs.declared.dispatch.Begin.{Begin}
use Rattle.pool.specs.declared.dispatch.Begin.TheVariants.{Again, Fresh}
use Rattle.pool.specs.declared.dispatch.Dispatcher.{Dispatcher}
use Rattle.pool.specs.declared.terms.Term.{Term}
use Rattle.committing.specs.Committing.{TheCommitter}

-- The seat is of this core, and a front that has departed from another enters with it
pub record Enters (core : TheCore) (departed : TheCore) (seen : List Entry) (seat : Caller) : Type 0 where
  pub core_is : seat.core ≡ core
  pub may : FrontMayEnter departed seen seat

-- The front begins at this core: with a seat that has let nothing, or after a renewal
abbrev pub Begins : {S : Type 0} → TheCore → Begin S → Caller → Type 0
Begins core (Fresh predictor) seat = IsUnused core seat
Begins core (Again still) seat = Enters core still.core still.seen seat

-- The seats that the threads of a term own are at this core, and add to these totals
pub record AreAt {S : Type 0} (core : TheCore) (counts : TableId) (dispatcher : Dispatcher S)
    (unit : Caller) (count : Counter) : Type 0 where
  pub begins : Begins core dispatcher.begin dispatcher.seat
  pub front_count : dispatcher.count.of ≡ counts
  pub unit_is : unit.core ≡ core
  pub count_is : count.of ≡ counts

-- A term may begin: the commit side is at its core, which has the sizes that are configured, and what its threads own
-- is there, and adds to these totals
pub record MayBegin {S : Type 0} (counts : TableId) (config : Settings) (committer : TheCommitter)
    (term : Term S) : Type 0 where
  pub sizes_are : term.core.sizes ≡ configured_sizes config
  pub owned : AreAt term.core counts term.owned.dispatcher term.owned.unit term.count
  pub back_is : committer.back.core ≡ term.core

-- The front has departed from this core, with a seat that has seen that nobody is live
pub record HasDeparted {S : Type 0} (core : TheCore) (seat : Caller) (still : TheStillFront S) : Type 0 where
  pub core_is : seat.core ≡ core
  pub nobody : HasNobody (unit_of core.program core.sizes seat.seen)
  pub still_core : still.core ≡ core
  pub still_seen : still.seen ≡ seat.seen

-- The front begins again after its departure from this core
abbrev pub FrontBeginsAgain : {S : Type 0} → TheCore → Caller → Begin S → Type 0
FrontBeginsAgain core seat (Fresh predictor) = ⊥
FrontBeginsAgain core seat (Again still) = HasDeparted core seat still

-- A dispatch thread gives this back: its front has departed from this core, and its count adds to these totals
pub record IsGivenBack {S : Type 0} (core : TheCore) (counts : TableId) (dispatcher : Dispatcher S) : Type 0 where
  pub departed : FrontBeginsAgain core dispatcher.seat dispatcher.begin
  pub count_is : dispatcher.count.of ≡ counts

-- The threads of a term give this back, of this core, and the commit side is there, which may renew the core
pub record IsReturned {S : Type 0} (core : TheCore) (counts : TableId) (dispatcher : Dispatcher S)
    (unit : Caller) (committer : TheCommitter) : Type 0 where
  pub given : IsGivenBack core counts dispatcher
  pub unit_is : unit.core ≡ core
  pub back_is : committer.back.core ≡ core
  pub going : committer.back.ended ≡ None

-- Another core of the same program and sizes, the front's seat and a unit's at it, and the back there
pub record AreRenewed (old : TheCore) (seen : List Entry) (core : TheCore) (seat unit : Caller)
    (back_core : TheCore) : Type 0 where
  pub program : core.program ≡ old.program
  pub sizes : core.sizes ≡ old.sizes
  pub enters : Enters core old seen seat
  pub unit_is : unit.core ≡ core
  pub back_is : back_core ≡ core
