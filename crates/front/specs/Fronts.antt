-- What contracts see of a front.
use Rattle.std.specs.Prelude.{◌≡◌, ℕ, Bool, true, List, [], length}
use Rattle.std.specs.List.{AllByRecursion}
use Rattle.instructions.specs.Programs.{Program}
use Rattle.instructions.specs.declared.instr.Instr.{Instr}
use Rattle.inorder.specs.declared.history.Entry.{Entry}
use Rattle.inorder.specs.History.{IsLegal, front, own, unit_of}
use Rattle.inorder.specs.OneHistory.{Adds}
use Rattle.inorder.specs.Tenants.{IsNotLive}
use Rattle.inorder.specs.Unit.{UpdateUnit}
use Rattle.station.specs.Seats.{Caller, TheCore}
use Rattle.front.specs.declared.answers.Made.{Made}
use Rattle.front.specs.declared.answers.Recovery.{Recovery}
use Rattle.front.specs.declared.answers.Rest.{Rest}
use Rattle.front.specs.declared.answers.Turn.{Turn}
use Rattle.front.specs.declared.path.counted.CountedTable.{CountedTable}
use Rattle.front.specs.declared.path.base_state.Base.{Base}
use Rattle.front.specs.declared.path.Path.{Path}
use Rattle.front.specs.CreateTable.{HasTable}
use Rattle.front.specs.Creating.{IsCreatorAnswer}
use Rattle.front.specs.Knows.{FrontKnows}
use Rattle.front.specs.Path.{rested_at}
use Rattle.front.specs.Recoveries.{RecoverAnswers}
use Rattle.front.specs.Rests.{RestAnswers}
use Rattle.front.specs.Turns.{TurnAnswers}

-- The front has seen this, and knows this much of the path
abbrev pub KnowsPath : TheCore → List Entry → Path → Type 0
KnowsPath core seen path = FrontKnows core.program core.sizes (unit_of core.program core.sizes seen) path.records path.base

-- The create vector is that of the unit, without the tenants that there were when the front last rested
abbrev pub KnowsTable : TheCore → List Entry → Base → CountedTable → Type 0
KnowsTable core seen base creators =
    HasTable core.program (unit_of core.program core.sizes seen) (rested_at base) creators.table

-- The history that the front has seen has grown, and the front has added nothing
abbrev pub AddsNothing : TheCore → List Entry → List Entry → Type 0
AddsNothing core old new = Adds core.program core.sizes front old new []

-- A front: its core, what it has seen, its predictor, how often its create vector was read or written,
-- how many tenants there were when it last rested, and whether it has not turned or recovered since
pub record TheFront (S : Type 0) : Type 0 where
  pub core : TheCore
  pub seen : List Entry
  pub predictor : S
  pub touched : ℕ
  pub trained_upto : ℕ
  pub rested : Bool

-- A front's seat of this core that has let nothing
pub record IsUnused (core : TheCore) (seat : Caller) : Type 0 where
  pub core_is : seat.core ≡ core
  pub by_is : seat.by ≡ front
  pub none : own front seat.seen ≡ []

-- Nobody is live, and no tenant is kept
pub record HasRested (core : TheCore) (seen : List Entry) (path : Path) : Type 0 where
  pub nobody : AllByRecursion IsNotLive (unit_of core.program core.sizes seen).tenants
  pub none : path.records ≡ []
  pub told : rested_at path.base ≡ length (unit_of core.program core.sizes seen).tenants

-- The seat is the front's, the path is what it knows, and the create vector is that of the unit
pub record IsFront (P : Program) (seat : Caller) (path : Path) (creators : CountedTable) (rested : Bool) : Type 0 where
  pub by_is : seat.by ≡ front
  pub program : P ≡ seat.core.program
  pub legal : IsLegal seat.core.program seat.core.sizes seat.seen
  pub knows : KnowsPath seat.core seat.seen path
  pub table : KnowsTable seat.core seat.seen path.base creators
  pub rests : rested ≡ true → HasRested seat.core seat.seen path

-- A turn of the front is answered so
abbrev pub TurnsTo : {S : Type 0} → (S → ℕ → Instr → ℕ → S → Type 0) → (S → ℕ → ℕ → S → Type 0) → TheCore → TheFront S → TheFront S → Turn → Type 0
TurnsTo Predicts Learns core old new turn =
    TurnAnswers Predicts Learns core.program core.sizes old.trained_upto old.seen new.seen old.predictor new.predictor turn

-- A recovery of the front is answered so
abbrev pub FrontRecoversTo : {S : Type 0} → TheCore → TheFront S → TheFront S → Recovery → Type 0
FrontRecoversTo core old new recovery = RecoverAnswers core.program core.sizes old.seen new.seen recovery

-- A rest of the front is answered so
abbrev pub RestsTo : {S : Type 0} → (S → ℕ → ℕ → S → Type 0) → TheCore → TheFront S → TheFront S → Rest → Type 0
RestsTo Learns core old new rest =
    RestAnswers Learns core.program core.sizes old.trained_upto old.seen new.seen old.predictor new.predictor rest

-- The creator of register r, by what the front has seen
abbrev pub CreatorOf : {S : Type 0} → TheFront S → ℕ → Made → Type 0
CreatorOf f r made = IsCreatorAnswer f.core.program (unit_of f.core.program f.core.sizes f.seen) f.trained_upto r made

-- The unit of what the front has seen
abbrev pub front_unit : {S : Type 0} → TheFront S → UpdateUnit
front_unit f = unit_of f.core.program f.core.sizes f.seen
