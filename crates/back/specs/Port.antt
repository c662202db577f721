-- What the memory port knows while it answers one load.
use Rattle.std.specs.Prelude.{◌≡◌, ◌⊎◌, ◌+◌, ◌%◌, ◌<◌, ◌≤◌, ℕ, true, false, List, Option, Some, None, length}
use Rattle.instructions.specs.Instruction.{width}
use Rattle.instructions.specs.Programs.{Program}
use Rattle.instructions.specs.declared.instr.Instr.{Instr}
use Rattle.inorder.specs.declared.history.Entry.{Entry}
use Rattle.inorder.specs.Callers.{CanLoad}
use Rattle.inorder.specs.Loads.{access_entry, access_width, entry_of, is_store}
use Rattle.inorder.specs.Replies.{Has, IsStale}
use Rattle.inorder.specs.Tenants.{Addr, Fate, Live, Tenant, instr, kind_of}
use Rattle.inorder.specs.Unit.{UpdateUnit, at}
use Rattle.lsq.specs.declared.entry.Entry.{Entry as QueueEntry}
use Rattle.lsq.specs.LoadRule.{lacks_address, overlaps}
use Rattle.ruu_words.specs.declared.station.StationState.{StationState}
use Rattle.ruu_words.specs.declared.station.StationState.TheVariants.{Addr as ShowsAddr}
use Rattle.ruu_words.specs.Kinds.{IsNamed}
use Rattle.station.specs.Seats.{TheCore}
use Rattle.station.specs.declared.answers.SourceState.{SourceState}
use Rattle.station.specs.declared.answers.SourceState.TheVariants.{Val}
use Rattle.back.specs.Backs.{unit_in}
use Rattle.back.specs.Loads.{Blocks, IsLiveLoad, IsWaitingLoad}
use Rattle.back.specs.declared.port.Load.{Load}

-- The address that a station's word shows
abbrev pub address_in : StationState → ℕ → Option ℕ
address_in ShowsAddr value = Some value
address_in _ value = None

-- The data that an operand shows
abbrev pub content_in : SourceState → ℕ → Option ℕ
content_in Val value = Some value
content_in _ value = None

-- The address that a tenant of this fate shows, if it does
abbrev pub shown_address : Fate → Option ℕ
shown_address (Addr a) = Some a
shown_address _ = None

-- The queue's entry of an instruction whose station shows this
abbrev pub seen_as : Instr → StationState → ℕ → QueueEntry
seen_as i state value = access_entry i.op (address_in state value) None

-- The k-th station after the head's
abbrev pub station_behind : ℕ → ℕ → ℕ → ℕ
station_behind head ring k = (head + k) % ring

-- The fact is true of each live tenant of the station that is one of the first n
abbrev pub AtStation : UpdateUnit → ℕ → ℕ → (Tenant → Type 0) → Type 0
AtStation U n station Fact =
    (q : ℕ) (u : Tenant) → q < n → at U.tenants q ≡ Some u → u.standing ≡ Live → u.station ≡ station → Fact u

-- The entry says what it is: a store or not, how wide, and its address; its data is not looked at
pub record IsEntryOf (P : Program) (e : QueueEntry) (u : Tenant) : Type 0 where
  pub store : e.store ≡ is_store (kind_of P u)
  pub width : e.width ≡ access_width (instr P u).op
  pub address : e.address ≡ shown_address u.fate
  pub content : e.content ≡ None

-- The tenant is no store, or one with its address
abbrev pub IsKnown : Program → Tenant → Type 0
IsKnown P u = (is_store (kind_of P u) ≡ false) ⊎ ((a : ℕ) × (u.fate ≡ Addr a))

-- A load at address a of w bytes does not wait for this tenant
pub record DoesNotWaitFor (P : Program) (a w : ℕ) (u : Tenant) : Type 0 where
  pub known : IsKnown P u
  pub apart : overlaps a w (entry_of P u) ≡ false

-- The tenant is a store with this entry, which overlaps a load at address a of w bytes
pub record IsMet (P : Program) (a w : ℕ) (e : QueueEntry) (u : Tenant) : Type 0 where
  pub base : ℕ
  pub store : is_store (kind_of P u) ≡ true
  pub fate : u.fate ≡ Addr base
  pub entry : e ≡ record { store = true; width = access_width (instr P u).op; address = Some base; content = None }
  pub meets : overlaps a w e ≡ true

-- The tenant is a store without its address
abbrev pub Lacks : Program → Tenant → Type 0
Lacks P u = lacks_address (entry_of P u) ≡ true

-- The stores from the k-th station on up to that of the load have their addresses, and this is the youngest
-- that overlaps it
pub record HasMet (P : Program) (U : UpdateUnit) (n head ring k at a w s : ℕ) (e : QueueEntry) : Type 0 where
  pub here : k ≤ s
  pub bound : s < at
  pub known : (j : ℕ) → k ≤ j → j < at → AtStation U n (station_behind head ring j) (IsKnown P)
  pub younger : (j : ℕ) → s < j → j < at → AtStation U n (station_behind head ring j) (DoesNotWaitFor P a w)
  pub it : AtStation U n (station_behind head ring s) (IsMet P a w e)

-- The stores from the k-th station on up to that of the load have their addresses, and this is the
-- youngest that overlaps it, if one does
abbrev pub HasFound : Program → UpdateUnit → (n head ring k at a w : ℕ) → Option (ℕ × QueueEntry) → Type 0
HasFound P U n head ring k at a w None =
    (j : ℕ) → k ≤ j → j < at → AtStation U n (station_behind head ring j) (DoesNotWaitFor P a w)
HasFound P U n head ring k at a w (Some found) = HasMet P U n head ring k at a w found.0 found.1

-- The youngest store without its address
pub record HasUnknown (P : Program) (U : UpdateUnit) (n head ring at s : ℕ) : Type 0 where
  pub bound : s < at
  pub younger : (j : ℕ) → s < j → j < at → AtStation U n (station_behind head ring j) (IsKnown P)
  pub it : AtStation U n (station_behind head ring s) (Lacks P)

-- The tenant is this load, and waits
pub record IsLoadOf (P : Program) (station : ℕ) (l : Load) (t : Tenant) : Type 0 where
  pub load : IsLiveLoad P t
  pub station_is : t.station ≡ station
  pub tag_is : t.tag ≡ l.tag
  pub fate : t.fate ≡ Addr l.address
  pub op_is : (instr P t).op ≡ l.op

-- Tenant p is this load and waits, unless it was squashed
abbrev pub IsAskedInOrder : Program → UpdateUnit → ℕ → ℕ → Load → Type 0
IsAskedInOrder P U p station l = Has U p (IsLoadOf P station l) ⊎ IsStale U p

-- A store of this station blocks load p
pub record IsBlockedAt (P : Program) (U : UpdateUnit) (p station : ℕ) : Type 0 where
  pub q : ℕ
  pub blocks : Blocks P U p q
  pub store : Has U q (λ u. u.station ≡ station)

-- A load inside the memory
abbrev pub LoadIsInside : Program → Load → Type 0
LoadIsInside P l = l.address + width l.op ≤ length P.bytes

-- Over a core, for a caller that had seen `old` before and has seen `new` now

-- This is the entry of each live tenant of the station that it had seen
abbrev pub IsEntryThere : TheCore → (old new : List Entry) → ℕ → QueueEntry → Type 0
IsEntryThere core old new station e =
    AtStation (unit_in core new) (length (unit_in core old).tenants) station (IsEntryOf core.program e)

-- The search of the stations before that of the load has found this
abbrev pub SearchFinds : TheCore → (old new : List Entry) → (head at : ℕ) → Load → Option (ℕ × QueueEntry) → Type 0
SearchFinds core old new head at l found =
    HasFound core.program (unit_in core new) (length (unit_in core old).tenants) head core.sizes.ring
    0 at l.address (width l.op) found

-- The search has met a store without its address
abbrev pub SearchMisses : TheCore → (old new : List Entry) → (head at s : ℕ) → Type 0
SearchMisses core old new head at s =
    HasUnknown core.program (unit_in core new) (length (unit_in core old).tenants) head core.sizes.ring at s

-- The load at this place may be answered with this value, unless it was squashed
abbrev pub MayAnswer : TheCore → (old new : List Entry) → (head at : ℕ) → Load → ℕ → Type 0
MayAnswer core old new head at l v =
    (p : ℕ) → IsAskedInOrder core.program (unit_in core old) p (station_behind head core.sizes.ring at) l →
    CanLoad core.program (unit_in core new) p l.address v ⊎ IsStale (unit_in core new) p

-- The store at place s blocks the load at this place, unless that was squashed
abbrev pub MayBlock : TheCore → (old new : List Entry) → (head at : ℕ) → Load → ℕ → Type 0
MayBlock core old new head at l s =
    (p : ℕ) → IsAskedInOrder core.program (unit_in core old) p (station_behind head core.sizes.ring at) l →
    IsBlockedAt core.program (unit_in core new) p (station_behind head core.sizes.ring s) ⊎ IsStale (unit_in core new) p

-- The load of a station waits still
abbrev pub Remains : TheCore → (old new : List Entry) → ℕ → Load → Type 0
Remains core old new station l =
    (p : ℕ) → IsNamed (unit_in core old) p station l.tag → IsAskedInOrder core.program (unit_in core old) p station l →
    Has (unit_in core new) p (IsLoadOf core.program station l)

-- The load waits no more
abbrev pub Ceases : TheCore → (old new : List Entry) → ℕ → Load → Type 0
Ceases core old new station l =
    (p : ℕ) → IsAskedInOrder core.program (unit_in core old) p station l →
    ¬ Has (unit_in core new) p (IsWaitingLoad core.program)
