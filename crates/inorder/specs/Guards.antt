-- What no legal step of a unit may do, and what a recovery restores.
use Rattle.std.specs.Prelude.{◌≡◌, ◌≢◌, ℕ, ◌<◌, Bool, List, Some, None}
use Rattle.instructions.specs.Programs.{Program}
use Rattle.instructions.specs.declared.op.Kind.TheVariants.{Stores}
use Rattle.instructions.specs.declared.stop.Stop.{Stop}
use Rattle.inorder.specs.declared.history.Act.{Act}
use Rattle.inorder.specs.declared.history.Act.TheVariants.{Claim, Deliver, Finish, Load, Mend, Retire, Squash}
use Rattle.inorder.specs.declared.history.Source.{Source}
use Rattle.inorder.specs.declared.history.Step.{Step}
use Rattle.inorder.specs.declared.history.Step.TheVariants.{On}
use Rattle.inorder.specs.Legal.{Allowed, AreAllowed, Taken, applied, reached}
use Rattle.inorder.specs.StationWords.{ChangesStation}
use Rattle.inorder.specs.Tenants.{Addr, Busy, IsThere, Linked, Live, Miss, Open, Retired, Squashed, Stopped, Tenant, kind_of, operand}
use Rattle.inorder.specs.Unit.{Sizes, at, creator, front_pc, older, value_of}

-- A miss is mended before it retires
abbrev pub MissStays : Program → Sizes → List Taken → Type 0
MissStays P C history =
    (by p n x : ℕ) (t : Tenant) → at (reached P C history).tenants p ≡ Some t →
    t.fate ≡ Miss x → ¬ Allowed P C (reached P C history) by (On p (Retire n))

-- Nobody claims, finishes, loads, retires, squashes or mends a squashed tenant
abbrev pub SquashedStays : Program → Sizes → List Taken → Type 0
SquashedStays P C history =
    (by p : ℕ) (act : Act) (t : Tenant) → at (reached P C history).tenants p ≡ Some t →
    t.standing ≡ Squashed → ChangesStation act → ¬ Allowed P C (reached P C history) by (On p act)

-- A tenant is claimed once, and finished by the caller that claimed it
pub record IsClaimedOnce (P : Program) (C : Sizes) (history : List Taken) : Type 0 where
  pub claim : (by p : ℕ) (t : Tenant) → at (reached P C history).tenants p ≡ Some t →
      t.fate ≢ Open → ¬ Allowed P C (reached P C history) by (On p Claim)
  pub finish : (by other p : ℕ) (t : Tenant) → at (reached P C history).tenants p ≡ Some t →
      t.fate ≡ Busy other → by ≢ other → ¬ Allowed P C (reached P C history) by (On p Finish)

-- Once a stop has retired, nothing retires
abbrev pub StopEnds : Program → Sizes → List Taken → Type 0
StopEnds P C history =
    AreAllowed P C history → (by p q n : ℕ) (t : Tenant) (c : Stop) →
    at (reached P C history).tenants q ≡ Some t → t.standing ≡ Retired → t.fate ≡ Stopped c →
    ¬ Allowed P C (reached P C history) by (On p (Retire n))

-- `Load` completes a load only where each older live store has its address
abbrev pub LoadWaits : Program → Sizes → List Taken → Type 0
LoadWaits P C history =
    (by p q : ℕ) (t : Tenant) → Allowed P C (reached P C history) by (On p Load) → q < p →
    at (reached P C history).tenants q ≡ Some t → t.standing ≡ Live → kind_of P t ≡ Stores →
    (a : ℕ) × (t.fate ≡ Addr a)

-- Source k was asked for, and has no value
pub record AwaitsValue (k : Source) (t : Tenant) : Type 0 where
  pub in_time : Bool
  pub way : (operand k t).way ≡ Linked in_time
  pub waits : (operand k t).value ≡ None

-- A delivery gives a source that was asked for what its creator has made
pub record IsGivenRight (ts : List Tenant) (k : Source) (t u : Tenant) : Type 0 where
  pub asked : AwaitsValue k t
  pub there : IsThere (operand k u).value
  pub value : (operand k u).value ≡ value_of ts (operand k t).creator

-- A delivery gives a source that was asked for what its creator has made, and no other step changes the
-- value of any source
pub record Delivers (P : Program) (C : Sizes) (history : List Taken) : Type 0 where
  pub gives : (by p : ℕ) (k : Source) (t u : Tenant) →
      Allowed P C (reached P C history) by (On p (Deliver k)) →
      at (reached P C history).tenants p ≡ Some t →
      at (applied P C (reached P C history) by (On p (Deliver k))).tenants p ≡ Some u →
      IsGivenRight (older (reached P C history).tenants p) k t u
  pub others : (by p : ℕ) (s : Step) (k : Source) (t u : Tenant) →
      Allowed P C (reached P C history) by s → s ≢ On p (Deliver k) →
      at (reached P C history).tenants p ≡ Some t →
      at (applied P C (reached P C history) by s).tenants p ≡ Some u →
      (operand k u).value ≡ (operand k t).value

-- A squash leaves the create vector and the front pc that the tenants before the squashed one
-- define. A mended tenant goes on where its outcome says
pub record Restores (P : Program) (C : Sizes) (history : List Taken) : Type 0 where
  pub creators : (by p r : ℕ) → AreAllowed P C history →
      Allowed P C (reached P C history) by (On p Squash) →
      creator P (applied P C (reached P C history) by (On p Squash)).tenants r ≡
      creator P (older (reached P C history).tenants p) r
  pub goes_on : (by p : ℕ) → AreAllowed P C history →
      Allowed P C (reached P C history) by (On p Squash) →
      front_pc (applied P C (reached P C history) by (On p Squash)).tenants ≡
      front_pc (older (reached P C history).tenants p)
  pub mended : (by p x : ℕ) (t : Tenant) → AreAllowed P C history →
      Allowed P C (reached P C history) by (On p Mend) →
      at (reached P C history).tenants p ≡ Some t → t.fate ≡ Miss x →
      front_pc (applied P C (reached P C history) by (On p Mend)).tenants ≡ x
