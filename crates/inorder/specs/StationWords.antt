-- What the word of a station shows, and how each step moves it.
use Rattle.std.specs.Prelude.{⊤, ◌≡◌, ◌≢◌, ℕ, suc, List, [], ◌∷◌, Option, Some, None, ◌==◌, if◌then◌else◌}
use Rattle.std.specs.List.{AllByRecursion}
use Rattle.instructions.specs.Operations.{code_of}
use Rattle.instructions.specs.Programs.{Program}
use Rattle.instructions.specs.declared.stop.Stop.{Stop}
use Rattle.inorder.specs.declared.history.Act.{Act}
use Rattle.inorder.specs.declared.history.Act.TheVariants.{Deliver, Link}
use Rattle.inorder.specs.declared.history.Step.TheVariants.{Let, On}
use Rattle.inorder.specs.declared.history.Supply.{Supply}
use Rattle.inorder.specs.Legal.{Allowed, AreAllowed, Taken, applied, changed, reached}
use Rattle.inorder.specs.Tenants.{Addr, Busy, Done, Fate, Guessed, Live, Miss, Open, Retired, Squashed, Standing, Stopped, Tenant}
use Rattle.inorder.specs.Unit.{Sizes, UpdateUnit, at, next_station, next_tag, older, recent, tag_after, younger}

-- The states of a station's word
pub data StationState : Type 0 where
  IsFree : StationState
  IsOpen : StationState
  IsBusy : StationState
  IsAddr : StationState
  IsDone : StationState
  IsMiss : StationState
  IsStop : StationState

-- The content of a station's word
pub record StationWord : Type 0 where
  pub tag : ℕ
  pub state : StationState
  pub value : Option ℕ  -- none where it has no meaning

-- The word of a live tenant, by its tag and fate
abbrev pub live_word : ℕ → Fate → StationWord
live_word tag Open = record { tag = tag; state = IsOpen; value = Some 0 }
live_word tag (Busy by) = record { tag = tag; state = IsBusy; value = Some 0 }
live_word tag (Addr a) = record { tag = tag; state = IsAddr; value = Some a }
live_word tag (Done v) = record { tag = tag; state = IsDone; value = Some v }
live_word tag (Miss x) = record { tag = tag; state = IsMiss; value = Some x }
live_word tag (Guessed v) = record { tag = tag; state = IsBusy; value = Some 0 }
live_word tag (Stopped c) = record { tag = tag; state = IsStop; value = Some (code_of c) }

-- The value that a retired tenant leaves
abbrev pub left_value : Fate → Option ℕ → Option ℕ
left_value (Done v) made = Some v
left_value (Stopped c) made = made
left_value _ made = None

-- The word of a tenant, live or gone, whose station's next tag is another
abbrev pub word_by : ℕ → Standing → ℕ → Fate → Option ℕ → StationWord
word_by next Live tag fate made = live_word tag fate
word_by next Retired tag fate made =
    record { tag = next; state = IsFree; value = left_value fate made }
word_by next Squashed tag fate made = record { tag = next; state = IsFree; value = None }

-- The word of a station, by its last tenant, if it had one
abbrev pub station_word_of : ℕ → Option Tenant → StationWord
station_word_of next None = record { tag = next; state = IsFree; value = Some 0 }
station_word_of next (Some t) = word_by next t.standing t.tag t.fate t.made

-- The last tenant of station s
abbrev pub last_of : List Tenant → ℕ → Option Tenant
last_of [] s = None
last_of (t ∷ ts) s = if t.station == s then Some t else last_of ts s

-- A station shows its last tenant while that one is live, and else that it is free, with its next
-- tag
abbrev pub station_word : Sizes → List Tenant → ℕ → StationWord
station_word C ts s = station_word_of (tag_after C ts s) (last_of ts s)

-- An act that changes what a station shows; a link and a delivery change none
abbrev pub ChangesStation : Act → Type 0
ChangesStation (Link k) = ⊥
ChangesStation (Deliver k) = ⊥
ChangesStation _ = ⊤

-- An act that changes no station's word
abbrev pub KeepsStations : Act → Type 0
KeepsStations (Link k) = ⊤
KeepsStations (Deliver k) = ⊤
KeepsStations _ = ⊥

-- A tenant of this fate is claimed, or has guessed: its word shows no more
abbrev pub IsUnderWay : Fate → Type 0
IsUnderWay (Busy by) = ⊤
IsUnderWay (Guessed v) = ⊤
IsUnderWay _ = ⊥

-- A fate by the state and value of a word
abbrev pub HasFate : StationState → Option ℕ → Fate → Type 0
HasFate IsFree value fate = ⊥
HasFate IsOpen value fate = fate ≡ Open
HasFate IsBusy value fate = IsUnderWay fate
HasFate IsAddr value fate = (a : ℕ) × (value ≡ Some a) × (fate ≡ Addr a)
HasFate IsDone value fate = (v : ℕ) × (value ≡ Some v) × (fate ≡ Done v)
HasFate IsMiss value fate = (x : ℕ) × (value ≡ Some x) × (fate ≡ Miss x)
HasFate IsStop value fate = (c : Stop) × (value ≡ Some (code_of c)) × (fate ≡ Stopped c)

-- The live tenant that the word of station s names
pub record NamedBy (C : Sizes) (ts : List Tenant) (s : ℕ) : Type 0 where
  pub p : ℕ
  pub tenant : Tenant
  pub is : at ts p ≡ Some tenant
  pub live : tenant.standing ≡ Live
  pub station : tenant.station ≡ s
  pub tag : tenant.tag ≡ (station_word C ts s).tag
  pub fate : HasFate (station_word C ts s).state (station_word C ts s).value tenant.fate
  pub last : AllByRecursion (λ u. u.station ≢ s) (younger ts p)

-- Between a unit's tenants and its station words
pub record WordsShow (C : Sizes) (ts : List Tenant) : Type 0 where
  -- a live tenant is what its station shows
  pub live : (p : ℕ) (t : Tenant) → at ts p ≡ Some t → t.standing ≡ Live →
      station_word C ts t.station ≡ live_word t.tag t.fate
  -- a station that is not free shows one live tenant
  pub names : (s : ℕ) → (station_word C ts s).state ≢ IsFree → NamedBy C ts s

-- How a step moves the station words
pub record WordsMove (P : Program) (C : Sizes) (U : UpdateUnit) (by : ℕ) : Type 0 where
  -- a let takes a free station, with its next tag
  pub before_let : (index predicted : ℕ) (first second : Supply) →
      Allowed P C U by (Let index predicted first second) →
      ((station_word C (recent U) (next_station C (recent U))).state ≡ IsFree) ×
      ((station_word C (recent U) (next_station C (recent U))).tag ≡ next_tag C (recent U))
  pub after_let : (index predicted : ℕ) (first second : Supply) (s : ℕ) →
      Allowed P C U by (Let index predicted first second) →
      station_word C (recent (applied P C U by (Let index predicted first second))) s ≡
      (if next_station C (recent U) == s
      then live_word (next_tag C (recent U)) Open
      else station_word C (recent U) s)
  -- an act changes its tenant's station alone; one by which it leaves raises the tag by one
  pub after_act : (p : ℕ) (act : Act) (t : Tenant) (s : ℕ) → ChangesStation act →
      Allowed P C U by (On p act) → at U.tenants p ≡ Some t →
      station_word C (recent (applied P C U by (On p act))) s ≡
      (if t.station == s
      then station_word_of (suc t.tag) (Some (changed P by act t (older U.tenants p)))
      else station_word C (recent U) s)
  -- a link and a delivery change none
  pub kept : (p : ℕ) (act : Act) (s : ℕ) → KeepsStations act → Allowed P C U by (On p act) →
      station_word C (recent (applied P C U by (On p act))) s ≡ station_word C (recent U) s

-- In each unit that allowed steps reach, the words show the tenants let since the last renewal, and
-- each step moves them
pub record StationsFollow (P : Program) (C : Sizes) (history : List Taken) (by : ℕ) : Type 0 where
  pub shows : AreAllowed P C history → WordsShow C (recent (reached P C history))
  pub moves : AreAllowed P C history → WordsMove P C (reached P C history) by
