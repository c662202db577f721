-- What contracts see of a back.
use Rattle.std.specs.Prelude.{◌≡◌, ℕ, List, [], Option, None}
use Rattle.instructions.specs.declared.stop.Stop.{Stop}
use Rattle.inorder.specs.declared.history.Entry.{Entry}
use Rattle.inorder.specs.Callers.{is_retired}
use Rattle.inorder.specs.Committed.{committed}
use Rattle.inorder.specs.History.{unit_of}
use Rattle.inorder.specs.OneHistory.{Adds}
use Rattle.inorder.specs.Machine.{State, start}
use Rattle.inorder.specs.Unit.{UpdateUnit, how_many}
use Rattle.snapshots.specs.Snapshots.{opening}
use Rattle.snapshots.specs.declared.snap.Snap.{Snap}
use Rattle.station.specs.Seats.{Caller, TheCore}

-- A back: its core, the number of its caller, what that caller has seen, whom its last exchange for a load has woken, the
-- code with which it has ended, if it has, and the snapshot that it showed last
pub record TheBack : Type 0 where
  pub core : TheCore
  pub by : ℕ
  pub seen : List Entry
  pub woken : ℕ
  pub ended : Option Stop
  pub shown : Snap

-- The back of this seat, which has ended so and has shown this
abbrev pub back_of : Caller → Option Stop → Snap → TheBack
back_of seat ended shown =
    record {
      core = seat.core;
      by = seat.by;
      seen = seat.seen;
      woken = seat.woken;
      ended = ended;
      shown = shown;
    }

-- The unit of what a caller has seen
abbrev pub unit_in : TheCore → List Entry → UpdateUnit
unit_in core seen = unit_of core.program core.sizes seen

-- The state that the unit of what was seen has committed
abbrev pub committed_in : TheCore → List Entry → State
committed_in core seen = committed core.program (unit_in core seen).tenants

-- The history that a caller has seen may have grown, by entries of others alone
abbrev pub SeesMore : TheCore → ℕ → List Entry → List Entry → Type 0
SeesMore core by old new = Adds core.program core.sizes by old new []

-- The registers, memory, pc and n of a back: what the unit has committed in what the back has seen
abbrev pub back_state : TheBack → State
back_state b = committed_in b.core b.seen

-- A seat whose caller has retired nothing: nobody else retires
abbrev pub HasRetiredNothing : Caller → Type 0
HasRetiredNothing seat = how_many is_retired (unit_in seat.core seat.seen).tenants ≡ 0

-- A back with this seat, at the start of the program
pub record IsNewBack (seat : Caller) (b : TheBack) : Type 0 where
  pub core : b.core ≡ seat.core
  pub by : b.by ≡ seat.by
  pub history : Adds seat.core.program seat.core.sizes seat.by seat.seen b.seen []
  pub woken : b.woken ≡ seat.woken
  pub ended : b.ended ≡ None
  pub shown : b.shown ≡ opening
  pub state : back_state b ≡ start seat.core.program

-- The back `new` is the back `old`, and may have seen more
pub record IsSameBack (old new : TheBack) : Type 0 where
  pub core : new.core ≡ old.core
  pub by : new.by ≡ old.by
  pub ended : new.ended ≡ old.ended
  pub shown : new.shown ≡ old.shown
  pub state : back_state new ≡ back_state old
