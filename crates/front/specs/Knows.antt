-- What the front knows of the unit: no step of others changes it.
use Rattle.std.specs.Prelude.{◌≡◌, ◌⊎◌, ℕ, ◌+◌, ◌%◌, ◌<◌, ◌≤◌, List, [], ◌++◌, map, length, Some, slice_index}
use Rattle.std.specs.List.{AllByRecursion}
use Rattle.instructions.specs.Programs.{Program}
use Rattle.inorder.specs.Callers.{IsLastAt}
use Rattle.inorder.specs.Replies.{Has}
use Rattle.inorder.specs.Tenants.{Retired}
use Rattle.inorder.specs.Unit.{Sizes, UpdateUnit, front_half, front_pc, next_station, recent, value_of}
use Rattle.front.specs.declared.path.base_state.Base.{Base}
use Rattle.front.specs.declared.path.record.Record.{Record}
use Rattle.front.specs.Creators.{creator_note, position}
use Rattle.front.specs.Path.{rested_at}
use Rattle.front.specs.Trail.{Note, trail}

-- The records that the front keeps of these tenants
abbrev pub whats : List Note → List Record
whats notes = map (λ n. n.what) notes

-- The tenant has retired
abbrev pub IsGone : UpdateUnit → Note → Type 0
IsGone U n = Has U n.at (λ t. t.standing ≡ Retired)

-- The tenant's station was let again
pub record IsReused (U : UpdateUnit) (n : Note) : Type 0 where
  pub p : ℕ
  pub behind : n.at < p
  pub tenant : Has U p (λ t. t.station ≡ n.what.station)

-- The tenant's station was not let again
abbrev pub IsNewest : UpdateUnit → Note → Type 0
IsNewest U n = IsLastAt U n.at n.what.station

-- The tenant's station was let again, or the tenant was there when the front last rested
abbrev pub IsFolded : UpdateUnit → ℕ → Note → Type 0
IsFolded U told n = IsReused U n ⊎ (n.at < told)

-- The tenant's station was let again or is the next tenant's, or the tenant was there when the front
-- last rested
abbrev pub IsPassed : Sizes → UpdateUnit → ℕ → Note → Type 0
IsPassed C U told n = IsFolded U told n ⊎ (n.what.station ≡ next_station C (recent U))

-- The path goes on where the base says: its pc, its half and its station
pub record GoesOnAt (P : Program) (C : Sizes) (U : UpdateUnit) (base : Base) : Type 0 where
  pub pc : front_pc U.tenants ≡ base.pc
  pub half : front_half P U.tenants ≡ base.half
  pub station : next_station C (recent U) ≡ base.station % C.ring

-- The records are the last tenants of the path, `notes`; all older ones, `gone`, have retired, and the base
-- registers are what the newest creators among these have made
pub record Stands (P : Program) (C : Sizes) (U : UpdateUnit) (records : List Record) (base : Base)
    (Again : Note → Type 0) : Type 0 where
  pub gone : List Note
  pub notes : List Note
  pub path : trail P U.tenants ≡ gone ++ notes
  pub are : records ≡ whats notes
  pub room : length notes ≤ C.ring
  pub begun : notes ≡ [] → GoesOnAt P C U base
  pub retired : AllByRecursion (IsGone U) gone
  pub again : AllByRecursion Again gone
  pub newest : AllByRecursion (IsNewest U) notes
  pub past : rested_at base ≤ length U.tenants
  -- nothing was renewed since: whoever was let after those is recent
  pub since : length U.tenants ≤ rested_at base + U.fresh
  pub untold : AllByRecursion (λ n. rested_at base ≤ n.at) notes
  pub wide : length base.registers ≡ 34
  pub base_is : (r : ℕ) → r < 34 → value_of U.tenants (position (creator_note gone r)) ≡ Some (slice_index base.registers r)

-- Between two calls: the stations of all older tenants were let again, but for those that there were
-- when the front last rested
abbrev pub FrontKnows : Program → Sizes → UpdateUnit → List Record → Base → Type 0
FrontKnows P C U records base = Stands P C U records base (IsFolded U (rested_at base))

-- Before a let: the stations of older tenants were let again, or are the next tenant's, or the front has rested since
pub record RecordsAreReady (P : Program) (C : Sizes) (U : UpdateUnit) (records : List Record) (base : Base) : Type 0 where
  pub stands : Stands P C U records base (IsPassed C U (rested_at base))
  pub free : length records < C.ring
