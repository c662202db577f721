-- What the memory port finds at one station.
use Rattle.std.specs.Prelude.{◌≡◌, ◌≢◌, ◌+◌, ℕ, List, [], ◌∷◌, ◌++◌, Option, Some, None, length, nat_lt, nat_le, if◌then◌else◌}
use Rattle.std.specs.List.{AllByRecursion}
use Rattle.instructions.specs.Instruction.{kind, width}
use Rattle.instructions.specs.Programs.{Program, instr_of}
use Rattle.instructions.specs.declared.instr.Instr.{Instr}
use Rattle.instructions.specs.declared.op.Kind.{Kind}
use Rattle.instructions.specs.declared.op.Kind.TheVariants.{Loads}
use Rattle.inorder.specs.declared.history.Act.TheVariants.{Load as LoadIt}
use Rattle.inorder.specs.declared.history.Entry.{Entry}
use Rattle.inorder.specs.declared.history.Event.{Event}
use Rattle.inorder.specs.declared.history.Event.TheVariants.{Does}
use Rattle.inorder.specs.declared.history.Step.TheVariants.{On}
use Rattle.inorder.specs.History.{unit_of}
use Rattle.inorder.specs.OneHistory.{Adds}
use Rattle.inorder.specs.Replies.{Has}
use Rattle.inorder.specs.Tenants.{Addr, Done, Live, Tenant}
use Rattle.inorder.specs.Unit.{Sizes, UpdateUnit}
use Rattle.ruu_words.specs.Kinds.{IsNamed, IsTenant}
use Rattle.station.specs.Moments.{WasOnce}
use Rattle.station.specs.Seats.{TheCore}
use Rattle.station.specs.Writeback.{IsWalk}
use Rattle.back.specs.Loads.{IsLiveLoad, WasNotWaiting}
use Rattle.back.specs.Port.{IsAskedInOrder, IsBlockedAt, station_behind}
use Rattle.back.specs.Refreshes.{IsTooLate}
use Rattle.back.specs.declared.answers.Refresh.{Refresh}
use Rattle.back.specs.declared.answers.Refresh.TheVariants as refresh
use Rattle.back.specs.declared.port.Load.{Load}
use Rattle.back.specs.declared.port.Tried.{Tried}
use Rattle.back.specs.declared.port.Tried.TheVariants.{Blocked, Loaded, Passed}

-- The load of an instruction at an address, if it is one and inside the memory
abbrev pub load_of_kind : Kind → ℕ → Instr → ℕ → ℕ → Option Load
load_of_kind Loads size i tag address =
    if nat_le (address + width i.op) size then Some (record { tag = tag; address = address; op = i.op }) else None
load_of_kind _ size i tag address = None

-- The load of the instruction of this index, if the program has one, and it is a load inside the memory
abbrev pub load_of_index : Program → ℕ → ℕ → ℕ → Option Load
load_of_index P index tag address =
    if nat_lt index (length P.code)
    then load_of_kind (kind (instr_of P index).op) (length P.bytes) (instr_of P index) tag address
    else None

-- A live load of this station
pub record IsLoadAt (P : Program) (station : ℕ) (t : Tenant) : Type 0 where
  pub load : IsLiveLoad P t
  pub station_is : t.station ≡ station

-- A live tenant of this station, with this tag and address
pub record ShowsAddress (station tag address : ℕ) (t : Tenant) : Type 0 where
  pub live : t.standing ≡ Live
  pub station_is : t.station ≡ station
  pub tag_is : t.tag ≡ tag
  pub fate : t.fate ≡ Addr address

-- No live load of the station waits, each at a moment of its own
abbrev pub NoLoadWaits : Program → Sizes → List Entry → List Entry → ℕ → Type 0
NoLoadWaits P C old new station = (q : ℕ) → Has (unit_of P C old) q (IsLoadAt P station) → WasNotWaiting P C old new q

-- No live load of the station but p waits, each at a moment of its own
abbrev pub NoOtherWaits : Program → Sizes → List Entry → List Entry → ℕ → ℕ → Type 0
NoOtherWaits P C old new station p =
    (q : ℕ) → q ≢ p → Has (unit_of P C old) q (IsLoadAt P station) → WasNotWaiting P C old new q

-- The load l of the station waits, unless it was squashed, and no other does
pub record SomeWaits (P : Program) (C : Sizes) (old new : List Entry) (station : ℕ) (l : Load) : Type 0 where
  pub p : ℕ
  pub named : IsNamed (unit_of P C new) p station l.tag
  pub asked : IsAskedInOrder P (unit_of P C new) p station l
  pub others : NoOtherWaits P C old new station p

-- No load of the station waits, over a core
abbrev pub NobodyWaits : TheCore → List Entry → List Entry → ℕ → Type 0
NobodyWaits core old new station = NoLoadWaits core.program core.sizes old new station

-- The load l of the station waits, unless it was squashed, and no other does, over a core
abbrev pub ThisWaits : TheCore → List Entry → List Entry → ℕ → Load → Type 0
ThisWaits core old new station l = SomeWaits core.program core.sizes old new station l

-- A store of station s blocks load p of this station
pub record HoldsBack (P : Program) (p station s : ℕ) (U : UpdateUnit) : Type 0 where
  pub blocked : IsBlockedAt P U p s
  pub load : Has U p (IsLoadAt P station)

-- Nothing was loaded: no load of the station waited, each at a moment of its own
pub record HasPassed (P : Program) (C : Sizes) (by : ℕ) (old new : List Entry) (station : ℕ) : Type 0 where
  pub late : List Event
  pub are_late : AllByRecursion IsTooLate late
  pub adds : Adds P C by old new late
  pub none : NoLoadWaits P C old new station

-- A store of station s held the load back at a moment of the call, and no other waits here
pub record HasHeldBack (P : Program) (C : Sizes) (by : ℕ) (old new : List Entry) (station s : ℕ) : Type 0 where
  pub adds : Adds P C by old new []
  pub p : ℕ
  pub when : WasOnce P C old new (HoldsBack P p station s)
  pub others : NoOtherWaits P C old new station p

-- The load of the station was done with this value, which was carried along its links
pub record DidLoad (P : Program) (C : Sizes) (by : ℕ) (old new : List Entry) (station tag value : ℕ) : Type 0 where
  pub p : ℕ
  pub tenant : IsTenant (unit_of P C new) p station tag (λ t. t.fate ≡ Done value)
  pub carried : List Event
  pub walk : IsWalk P C new p carried
  pub adds : Adds P C by old new (carried ++ Does (On p LoadIt) ∷ [])
  -- at a moment of the call it was live and stood there
  pub when : WasOnce P C old new (λ U. Has U p (IsLoadAt P station))

-- The answer about one station
abbrev pub StationAnswers : Program → Sizes → ℕ → List Entry → List Entry → ℕ → Tried → Type 0
StationAnswers P C by old new station Passed = HasPassed P C by old new station
StationAnswers P C by old new station (Blocked s) = HasHeldBack P C by old new station s
StationAnswers P C by old new station (Loaded tag value) = DidLoad P C by old new station tag value

-- The answer about the k-th station after the head's
abbrev pub TriedAnswers : TheCore → ℕ → List Entry → List Entry → (head k : ℕ) → Tried → Type 0
TriedAnswers core by old new head k tried =
    StationAnswers core.program core.sizes by old new (station_behind head core.sizes.ring k) tried

-- A refresh of the load of one station is answered so: that load got its value, or a store of another station held it
-- back, or none waited there
abbrev pub RefreshAtAnswers : TheCore → ℕ → List Entry → List Entry → (station : ℕ) → Refresh → Type 0
RefreshAtAnswers core by old new station (refresh.Loaded load tag value) =
    (load ≡ station) × DidLoad core.program core.sizes by old new station tag value
RefreshAtAnswers core by old new station (refresh.Blocked load store) =
    (load ≡ station) × HasHeldBack core.program core.sizes by old new station store
RefreshAtAnswers core by old new station refresh.Idle = HasPassed core.program core.sizes by old new station
