-- Retirement.
use Rattle.std.specs.Prelude.{⊤, ◌≡◌, ℕ, suc, ◌+◌, ◌%◌, Bool, true, false, List, [], ◌∷◌, Some}
use Rattle.instructions.specs.declared.op.Half.{Half}
use Rattle.instructions.specs.Operations.{code_of}
use Rattle.instructions.specs.Programs.{Program}
use Rattle.instructions.specs.declared.op.Kind.TheVariants.{Stores}
use Rattle.instructions.specs.declared.stop.Stop.{Stop}
use Rattle.inorder.specs.declared.history.Act.TheVariants.{Retire as RetireIt}
use Rattle.inorder.specs.declared.history.Entry.{Entry}
use Rattle.inorder.specs.declared.history.Event.{Event}
use Rattle.inorder.specs.declared.history.Event.TheVariants.{Does, Refuses}
use Rattle.inorder.specs.declared.history.Refusal.TheVariants.{Empty as IsEmptyNow, NotDone as IsNotDoneNow, Over as IsOverNow}
use Rattle.inorder.specs.declared.history.Step.TheVariants.{On}
use Rattle.inorder.specs.Callers.{IsHead}
use Rattle.inorder.specs.History.{back, unit_of}
use Rattle.inorder.specs.OneHistory.{Adds}
use Rattle.inorder.specs.StationWords.{IsFree, StationWord as Shown}
use Rattle.inorder.specs.Tenants.{Addr, Done, Fate, Stopped, Tenant, kind_of}
use Rattle.inorder.specs.Unit.{Sizes, UpdateUnit}
use Rattle.ruu_words.specs.declared.rule.Draft.{Draft}
use Rattle.ruu_words.specs.declared.station.StationState.{StationState}
use Rattle.ruu_words.specs.declared.station.StationState.TheVariants.{Addr as AddrState, Done as DoneState, Stop as StopState}
use Rattle.ruu_words.specs.declared.station.StationWord.{StationWord}
use Rattle.ruu_words.specs.Kinds.{Heads, IsTenant, ReadsData}
use Rattle.station.specs.declared.answers.Last.{Last}
use Rattle.station.specs.declared.answers.Last.TheVariants.{Done as WasDone, Stop as WasStop, Stored}
use Rattle.station.specs.declared.answers.Retire.{Retire}
use Rattle.station.specs.declared.answers.Retire.TheVariants.{Empty, NotDone, Over, Retired}
use Rattle.station.specs.declared.steps.retire.Access.{Access}
use Rattle.station.specs.declared.steps.retire.Leaving.{Leaving}
use Rattle.station.specs.Seats.{IsAtHead}

-- How the tenant ended
abbrev pub EndsAs : Program → Last → Tenant → Type 0
EndsAs P (WasDone v) t = t.fate ≡ Done v
EndsAs P (Stored address word) t =
    (kind_of P t ≡ Stores) × (t.fate ≡ Addr address) × (t.second.value ≡ Some word)
EndsAs P (WasStop code) t = t.fate ≡ Stopped code

-- The tenant is this half of this instruction, and ended so
pub record IsThisHalf (P : Program) (index : ℕ) (half : Half) (last : Last) (t : Tenant) : Type 0 where
  pub index_is : t.index ≡ index
  pub half_is : t.half ≡ half
  pub ends : EndsAs P last t

-- The tenant retired; n is what is kept of a stop
pub record IsRetired (P : Program) (C : Sizes) (by : ℕ) (old new : List Entry) (station tag index : ℕ)
    (half : Half) (last : Last) : Type 0 where
  pub p : ℕ
  pub n : ℕ
  pub tenant : IsTenant (unit_of P C new) p station tag (IsThisHalf P index half last)
  pub adds : Adds P C by old new (Does (On p (RetireIt n)) ∷ [])

-- A retirement answers which tenant retired, or a refusal that was true at its point
abbrev pub RetireAnswers : Program → Sizes → ℕ → List Entry → List Entry → Retire → Type 0
RetireAnswers P C by old new (Retired station tag index half last) =
    IsRetired P C by old new station tag index half last
RetireAnswers P C by old new NotDone = Adds P C by old new (Refuses IsNotDoneNow ∷ [])
RetireAnswers P C by old new Empty = Adds P C by old new (Refuses IsEmptyNow ∷ [])
RetireAnswers P C by old new Over = Adds P C by old new (Refuses IsOverNow ∷ [])

-- What the steps of a retirement find and tell

-- The look at the oldest live tenant, with which the back learns that it is the back
pub record LooksAtHead (P : Program) (C : Sizes) (by s n : ℕ) (h : List Entry) (d : Draft) (events : List Event) : Type 0 where
  pub by_is : by ≡ back
  pub heads : Heads P C s n h d events

-- The fate of a tenant by the state and value of its word: it has its address, is done or stops
abbrev pub IsEnd : StationState → ℕ → Fate → Type 0
IsEnd AddrState value fate = fate ≡ Addr value
IsEnd DoneState value fate = fate ≡ Done value
IsEnd StopState value fate = (code : Stop) × (value ≡ code_of code) × (fate ≡ Stopped code)
IsEnd _ value fate = ⊥

-- The word of station s is this tenant's, with its tag and its fate
pub record IsAtEnd (s : ℕ) (word : StationWord) (t : Tenant) : Type 0 where
  pub station_is : t.station ≡ s
  pub tag_is : t.tag ≡ word.tag
  pub end : IsEnd word.state word.value t.fate

-- In what was seen the oldest live tenant is at its end
pub record HasEnd (P : Program) (C : Sizes) (seen : List Entry) (s : ℕ) (word : StationWord) : Type 0 where
  pub p : ℕ
  pub head : IsHead (unit_of P C seen) p (IsAtEnd s word)

-- How a tenant ended, by the state and value of its word
abbrev pub IsLastOf : StationState → ℕ → Last → Type 0
IsLastOf StopState value last = (code : Stop) × (code_of code ≡ value) × (last ≡ WasStop code)
IsLastOf _ value last = last ≡ WasDone value

-- The tenant is the load or store of this access, with its address
pub record IsAccess (a : Access) (t : Tenant) : Type 0 where
  pub station_is : t.station ≡ a.station
  pub tag_is : t.tag ≡ a.tag
  pub index_is : t.index ≡ a.index
  pub half_is : t.half ≡ a.half
  pub fate : t.fate ≡ Addr a.address

-- In what was seen the oldest live tenant is this access
pub record HasAccess (P : Program) (C : Sizes) (seen : List Entry) (a : Access) : Type 0 where
  pub p : ℕ
  pub head : IsHead (unit_of P C seen) p (IsAccess a)

-- The load of the data of the oldest store
pub record FindsData (P : Program) (C : Sizes) (a : Access) (n : ℕ) (h : List Entry) (d : Draft) (events : List Event) : Type 0 where
  pub access : HasAccess P C h a
  pub data_is : ReadsData P C access.p n h d events

-- The tenant can retire like this
pub record IsLeaving (P : Program) (l : Leaving) (t : Tenant) : Type 0 where
  pub station_is : t.station ≡ l.station
  pub tag_is : t.tag ≡ l.tag
  pub last_is : IsThisHalf P l.index l.half l.last t

-- In what was seen the oldest live tenant can retire like this
pub record MayLeave (P : Program) (C : Sizes) (seen : List Entry) (l : Leaving) : Type 0 where
  pub p : ℕ
  pub head : IsHead (unit_of P C seen) p (IsLeaving P l)

-- The value that the station keeps of a retired tenant
abbrev pub kept_value : Last → ℕ
kept_value (WasDone v) = v
kept_value (Stored address word) = 0
kept_value (WasStop code) = code_of code

-- The word that a retired tenant leaves: free, with the next tag
abbrev pub left_word : Leaving → Shown
left_word l = record { tag = suc l.tag; state = IsFree; value = Some (kept_value l.last) }

-- The write of a retirement tells that this tenant retired
pub record Leaves (P : Program) (C : Sizes) (l : Leaving) (h : List Entry) (d : Draft) (events : List Event) : Type 0 where
  pub may : MayLeave P C h l
  pub added : events ≡ Does (On may.p (RetireIt (kept_value l.last))) ∷ []

-- The retired tenant was a stop
abbrev pub is_stop : Last → Bool
is_stop (WasStop code) = true
is_stop _ = false

-- After a retirement the oldest live tenant stands at the next station
abbrev pub HeadGoesOn : Sizes → UpdateUnit → ℕ → Retire → Type 0
HeadGoesOn C U s (Retired station tag index half last) = IsAtHead C U ((s + 1) % C.ring) (is_stop last)
HeadGoesOn C U s _ = ⊤
