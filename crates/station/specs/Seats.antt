-- What contracts see of a core and of its seats, and what a seat's caller knows between its calls.
use Rattle.std.specs.Prelude.{⊤, ◌≡◌, ℕ, ◌<◌, ◌≤◌, Bool, true, false, List, []}
use Rattle.atomic_table.specs.Seated.{TableId}
use Rattle.atomic_table.specs.Table.{Me}
use Rattle.instructions.specs.Programs.{Program}
use Rattle.inorder.specs.declared.history.Entry.{Entry}
use Rattle.inorder.specs.Callers.{GoesOn, head_station}
use Rattle.inorder.specs.History.{IsLegal, back, front, unit_of}
use Rattle.inorder.specs.Replies.{IsOver}
use Rattle.inorder.specs.Unit.{Sizes, UpdateUnit, next_station, recent}
use Rattle.ruu_words.specs.declared.rule.Draft.TheVariants.{Nothing}
use Rattle.ruu_words.specs.declared.rule.SpareNumbers.{SpareNumbers}
use Rattle.ruu_words.specs.declared.rule.Role.{Role}
use Rattle.ruu_words.specs.declared.rule.Role.TheVariants.{Back, Front, Spent, Start, Worker}
use Rattle.ruu_words.specs.declared.rule.Setup.{Setup}
use Rattle.ruu_words.specs.declared.rule.View.{View}
use Rattle.ruu_words.specs.Openings.{opening_of, sizes_of}
use Rattle.ruu_words.specs.Views.{IsCaller, Unborn, nobody}

-- A core: its table, the program, the sizes, and the history that it goes on from
pub record TheCore : Type 0 where
  pub id : TableId
  pub program : Program
  pub sizes : Sizes
  pub opening : List Entry

-- The core of a table, by the table's setup
abbrev pub core_of : TableId → Setup → TheCore
core_of id c = record { id = id; program = c.program; sizes = sizes_of c; opening = opening_of c }

-- A seat: its core, the number of its caller, the numbers that it may give to callers of seats cut
-- from it, what its caller has seen, and whom its last result has woken, a bit for each station
pub record Caller : Type 0 where
  pub core : TheCore
  pub by : ℕ
  pub spare : SpareNumbers
  pub seen : List Entry
  pub woken : ℕ

-- The unit of a core in what a seat's caller has seen
abbrev pub unit_seen : TheCore → Caller → UpdateUnit
unit_seen core v = unit_of core.program core.sizes v.seen

-- The seat w is the seat v at the same core
pub record IsSameSeat (v w : Caller) : Type 0 where
  pub core : w.core ≡ v.core
  pub by : w.by ≡ v.by

-- A stop has retired, or none has
abbrev pub HasRetiredStop : Bool → UpdateUnit → Type 0
HasRetiredStop true U = IsOver U
HasRetiredStop false U = GoesOn U

-- Where the oldest live tenant stands, and whether a stop has retired
pub record IsAtHead (C : Sizes) (U : UpdateUnit) (station : ℕ) (over : Bool) : Type 0 where
  pub head : station ≡ head_station C U
  pub ended : HasRetiredStop over U

-- The front knows its next tenant's station, and that no let is in progress; the back its oldest
-- tenant's, and whether the run is over
abbrev pub Knows : Program → Sizes → Role → ℕ → ℕ → Bool → View → Type 0
Knows P C Front by station over v =
    (by ≡ front) × (v.draft ≡ Nothing) × (station ≡ next_station C (recent (unit_of P C v.seen)))
Knows P C Back by station over v = by ≡ back → IsAtHead C (unit_of P C v.seen) station over
Knows P C Worker by station over v = ⊤
Knows P C Start by station over v = ⊥
Knows P C Spent by station over v = ⊥

-- A seat between two calls
pub record IsSeated (P : Program) (C : Sizes) (role : Role) (by station : ℕ) (over : Bool) (me : Me ℕ View) : Type 0 where
  pub role_is : me.0.role ≡ role
  pub slots : me.1 ≡ []
  pub legal : IsLegal P C me.0.seen
  pub inside : station < C.ring
  pub knows : Knows P C role by station over me.0

-- The seat may give numbers away, all above its own, whose callers have done nothing since the opening
pub record IsGiver (opening : List Entry) (v : View) : Type 0 where
  pub some : 1 ≤ v.spare.every
  pub above : v.by < v.spare.first
  pub unborn : Unborn opening v

-- A unit's seat may give numbers away, and no other seat may
abbrev pub HasSpare : List Entry → Role → View → Type 0
HasSpare opening Worker v = IsGiver opening v
HasSpare opening Start v = ⊥
HasSpare opening Front v = v.spare ≡ nobody
HasSpare opening Back v = v.spare ≡ nobody
HasSpare opening Spent v = ⊥

-- The number of a seat's caller is one of its role, at a table with this opening
pub record IsNumbered (opening : List Entry) (role : Role) (v : View) : Type 0 where
  pub caller : IsCaller role v.by
  pub spare : HasSpare opening role v
