-- What the callers of a shared unit know before they step: it stays true while only others step.
use Rattle.std.specs.Prelude.{◌≡◌, ◌≢◌, ◌⊎◌, ℕ, ◌%◌, ◌<◌, Bool, true, false, Some, None}
use Rattle.instructions.specs.Programs.{Program}
use Rattle.instructions.specs.declared.stop.Outcome.{Outcome}
use Rattle.inorder.specs.declared.history.Source.{Source}
use Rattle.inorder.specs.Memory.{load_value}
use Rattle.inorder.specs.Replies.{Has}
use Rattle.inorder.specs.Steps.{CanRetire, IsNoRetiredStop, MayLoad}
use Rattle.inorder.specs.Tenants.{Addr, Busy, Fate, IsNotLive, IsThere, Linked, Live, Miss, Retired, Squashed, Standing, Tenant, Unlinked, computed, kind_of, missing, on_path, operand}
use Rattle.inorder.specs.Unit.{Sizes, UpdateUnit, at, how_many, older, recent}

-- Anybody

-- Tenant q has made this value
pub record HasMade (U : UpdateUnit) (q value : ℕ) : Type 0 where
  pub tenant : Tenant
  pub is : at U.tenants q ≡ Some tenant
  pub made : tenant.made ≡ Some value

-- Each source k of a tenant of this station that was linked to q in time is delivered, or its
-- tenant has left
abbrev pub IsServed : UpdateUnit → ℕ → ℕ → Source → Type 0
IsServed U q station k =
    (p : ℕ) (t : Tenant) → at U.tenants p ≡ Some t → t.station ≡ station →
    (operand k t).creator ≡ Some q → (operand k t).way ≡ Linked true →
    IsThere (operand k t).value ⊎ IsNotLive t

-- A unit

-- This caller has claimed the tenant, and may finish it unless it was squashed
pub record IsHeld (by : ℕ) (t : Tenant) : Type 0 where
  pub fate : t.fate ≡ Busy by
  pub stays : (t.standing ≡ Live) ⊎ (t.standing ≡ Squashed)

-- The sources that the tenant needs are delivered
abbrev pub IsReady : Program → Tenant → Type 0
IsReady P t = missing P t ≡ None

-- This unit has claimed the tenant, which is ready, and whose outcome is this one
pub record HasJob (P : Program) (by predicted : ℕ) (outcome : Outcome) (t : Tenant) : Type 0 where
  pub held : IsHeld by t
  pub ready : IsReady P t
  pub computes : computed P t ≡ outcome
  pub predicted_is : t.predicted ≡ predicted

-- The front

-- Source k was let to come from tenant q, and was not asked for
pub record CanAsk (k : Source) (q : ℕ) (t : Tenant) : Type 0 where
  pub way : (operand k t).way ≡ Unlinked
  pub creator : (operand k t).creator ≡ Some q

-- Source k was asked for from tenant q, and the tenant was not squashed
pub record HasAsked (k : Source) (q : ℕ) (t : Tenant) : Type 0 where
  pub in_time : Bool
  pub way : (operand k t).way ≡ Linked in_time
  pub creator : (operand k t).creator ≡ Some q
  pub path : on_path t ≡ true

-- No tenant after p is of this station
abbrev pub IsLastAt : UpdateUnit → ℕ → ℕ → Type 0
IsLastAt U p station =
    (q : ℕ) (u : Tenant) → p < q → at U.tenants q ≡ Some u → u.station ≢ station

-- The tenant is a live misprediction that goes on at x
pub record IsMissing (x : ℕ) (t : Tenant) : Type 0 where
  pub live : t.standing ≡ Live
  pub fate : t.fate ≡ Miss x

-- No younger tenant is live
abbrev pub IsYoungestLive : UpdateUnit → ℕ → Type 0
IsYoungestLive U p =
    (q : ℕ) (t : Tenant) → p < q → at U.tenants q ≡ Some t → t.standing ≢ Live

-- The youngest live tenant may be squashed, since an older one is a live miss
pub record CanSquash (U : UpdateUnit) (p : ℕ) : Type 0 where
  pub tenant : Has U p (λ t. t.standing ≡ Live)
  pub youngest : IsYoungestLive U p
  pub q : ℕ
  pub x : ℕ
  pub before : q < p
  pub miss : Has U q (IsMissing x)

-- The youngest live tenant is a miss
pub record CanMend (U : UpdateUnit) (p x : ℕ) : Type 0 where
  pub miss : Has U p (IsMissing x)
  pub youngest : IsYoungestLive U p

-- The back

-- A tenant of this standing has retired
abbrev pub stands_retired : Standing → Bool
stands_retired Retired = true
stands_retired _ = false

-- The tenant has retired
abbrev pub is_retired : Tenant → Bool
is_retired t = stands_retired t.standing

-- Where the oldest live tenant stands, if there is one
abbrev pub head_station : Sizes → UpdateUnit → ℕ
head_station C U = how_many is_retired (recent U) % C.ring

-- No stop has retired
abbrev pub GoesOn : UpdateUnit → Type 0
GoesOn U = (p : ℕ) (t : Tenant) → at U.tenants p ≡ Some t → IsNoRetiredStop t

-- The oldest live tenant, where no stop has retired
pub record IsHead (U : UpdateUnit) (p : ℕ) (Fact : Tenant → Type 0) : Type 0 where
  pub tenant : Tenant
  pub is : at U.tenants p ≡ Some tenant
  pub live : tenant.standing ≡ Live
  pub oldest : (q : ℕ) (u : Tenant) → q < p → at U.tenants q ≡ Some u → u.standing ≢ Live
  pub goes_on : GoesOn U
  pub fact : Fact tenant

-- The oldest live tenant may retire, with this fate
pub record CanLeave (P : Program) (U : UpdateUnit) (p : ℕ) (f : Fate) : Type 0 where
  pub tenant : Tenant
  pub is : at U.tenants p ≡ Some tenant
  pub live : tenant.standing ≡ Live
  pub oldest : (q : ℕ) (u : Tenant) → q < p → at U.tenants q ≡ Some u → u.standing ≢ Live
  pub no_stop : (q : ℕ) (u : Tenant) → q < p → at U.tenants q ≡ Some u → IsNoRetiredStop u
  pub fate : tenant.fate ≡ f
  pub can : CanRetire (kind_of P tenant) tenant.second.value f

-- A load from this address may be answered, with this value
pub record CanLoad (P : Program) (U : UpdateUnit) (p address value : ℕ) : Type 0 where
  pub tenant : Tenant
  pub is : at U.tenants p ≡ Some tenant
  pub may : MayLoad P (older U.tenants p) tenant
  pub fate : tenant.fate ≡ Addr address
  pub value_is : load_value P (older U.tenants p) tenant ≡ value
