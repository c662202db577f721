-- Why an act is refused.
use Rattle.std.specs.Prelude.{◌≡◌, ◌≢◌, ℕ, ◌<◌, Bool, List, Option, Some, None, slice_get}
use Rattle.instructions.specs.Programs.{Program}
use Rattle.instructions.specs.declared.stop.Stop.{Stop}
use Rattle.inorder.specs.declared.history.Act.{Act}
use Rattle.inorder.specs.declared.history.Act.TheVariants.{Claim, Deliver, Finish, Link, Load, Mend, Retire, Speculate, Squash}
use Rattle.inorder.specs.declared.history.Speculation.TheVariants.{Confirm, Flush, Guess}
use Rattle.inorder.specs.declared.history.Source.{Source}
use Rattle.inorder.specs.Legal.{MayAct}
use Rattle.instructions.specs.declared.op.Kind.TheVariants.{Loads, Stores}
use Rattle.instructions.specs.Operations.{loaded}
use Rattle.instructions.specs.declared.stop.Outcome.TheVariants.{Address}
use Rattle.inorder.specs.Memory.{load_value, raw_at, sure_raw_at}
use Rattle.inorder.specs.Speculation.{CanGuess}
use Rattle.inorder.specs.Steps.{CanRetire, MayDeliver}
use Rattle.inorder.specs.Tenants.{Addr, Busy, Guessed, Linked, Live, Miss, Open, Retired as HasRetired, Squashed as IsSquashed, Stopped, Tenant, Unlinked, computed, instr, kind_of, missing, operand}
use Rattle.inorder.specs.Unit.{at, older, value_of}
use Rattle.replay.specs.Shown.{tenant_of}
use Rattle.replay.specs.declared.acting.Deed.{Deed}
use Rattle.replay.specs.declared.acting.Deed.TheVariants.{Claim as ToClaim, Confirm as ToConfirm, Deliver as ToDeliver, Finish as ToFinish, Flush as ToFlush, Guess as ToGuess, Link as ToLink, Load as ToLoad, Mend as ToMend, Retire as ToRetire, Squash as ToSquash}
use Rattle.replay.specs.declared.refusal.Refusal.{Refusal}
use Rattle.replay.specs.declared.refusal.Refusal.TheVariants.{BadAddress, Ended, Gone, HasAsked, HasBegun, HasEnded, HasValue, NoAddress, NoByte, NoLoad, NoMiss, NotAsked, NotBegun, NotDone, NotGuessed, NotSure, OtherValue, NothingMade, NotLet, NotMissed, Older, Retired, Squashed, StoreAddress, Waits, Younger}
use Rattle.replay.specs.declared.tenant.Fate.TheVariants.{Addr as HeldAddr, Miss as HeldMiss, Stops as HeldStops}
use Rattle.replay.specs.declared.tenant.Standing.{Standing}
use Rattle.replay.specs.declared.tenant.Standing.TheVariants.{Live as HeldLive, Retired as HeldRetired}
use Rattle.replay.specs.declared.tenant.Tenant.{Tenant as Held}

-- Tenants as they are held

-- The tenant at a position
abbrev pub held : List Held → ℕ → Option Held
held hs q = slice_get hs q

-- A tenant of this standing is in flight
abbrev pub IsLiveBy : Standing → Type 0
IsLiveBy s = s ≡ HeldLive

-- A tenant of this standing has retired
abbrev pub HasLeft : Standing → Type 0
HasLeft s = s ≡ HeldRetired

-- One that is there is in flight
abbrev pub IsHeldLive : Option Held → Type 0
IsHeldLive None = ⊥
IsHeldLive (Some h) = h.standing ≡ HeldLive

-- One that is there is a misprediction in flight
abbrev pub IsHeldMiss : Option Held → Type 0
IsHeldMiss None = ⊥
IsHeldMiss (Some h) = (h.standing ≡ HeldLive) × ((x : ℕ) × (h.fate ≡ HeldMiss x))

-- One that is there is a stop with this code, and has retired
abbrev pub IsHeldStop : Option Held → Stop → Type 0
IsHeldStop None c = ⊥
IsHeldStop (Some h) c = (h.standing ≡ HeldRetired) × (h.fate ≡ HeldStops c)

-- One that is there is a store in flight without an address
abbrev pub IsHeldUnaddressed : Program → Option Held → Type 0
IsHeldUnaddressed P None = ⊥
IsHeldUnaddressed P (Some h) =
    (h.standing ≡ HeldLive) × (kind_of P (tenant_of h) ≡ Stores) × ((a : ℕ) → h.fate ≢ HeldAddr a)

-- One that is there has this station
abbrev pub IsHeldAt : ℕ → Option Held → Type 0
IsHeldAt s None = ⊥
IsHeldAt s (Some h) = h.station ≡ s

-- Reasons

-- The tenant at position p is so
pub record Is (ts : List Tenant) (p : ℕ) (Fact : Tenant → Type 0) : Type 0 where
  pub tenant : Tenant
  pub is : at ts p ≡ Some tenant
  pub fact : Fact tenant

-- Nobody is in flight at position p
abbrev pub IsGone : List Tenant → ℕ → Refusal → Type 0
IsGone ts p NotLet = at ts p ≡ None
IsGone ts p Retired = Is ts p (λ t. t.standing ≡ HasRetired)
IsGone ts p Squashed = Is ts p (λ t. t.standing ≡ IsSquashed)
IsGone ts p Gone = Is ts p (λ t. t.standing ≢ Live)
IsGone ts p _ = ⊥

-- The tenant at position p is in flight
abbrev pub IsInFlight : List Tenant → ℕ → Type 0
IsInFlight ts p = Is ts p (λ t. t.standing ≡ Live)

-- Why the tenant at position p may not be claimed
abbrev pub IsNoClaim : Program → List Tenant → ℕ → Refusal → Type 0
IsNoClaim P ts p HasBegun = Is ts p (λ t. (t.standing ≡ Live) × (t.fate ≡ Busy 0))
IsNoClaim P ts p HasEnded = Is ts p (λ t. (t.standing ≡ Live) × (t.fate ≢ Open) × (t.fate ≢ Busy 0))
IsNoClaim P ts p (Waits k c) =
    Is ts p (λ t. (t.standing ≡ Live) × (t.fate ≡ Open) × (missing P t ≡ Some k) × ((operand k t).creator ≡ c))
IsNoClaim P ts p r = IsGone ts p r

-- Why the tenant at position p may not be finished
abbrev pub IsNoFinish : List Tenant → ℕ → Refusal → Type 0
IsNoFinish ts p NotBegun = Is ts p (λ t. (t.standing ≡ Live) × (t.fate ≡ Open))
IsNoFinish ts p HasEnded = Is ts p (λ t. (t.standing ≡ Live) × (t.fate ≢ Open) × (t.fate ≢ Busy 0))
IsNoFinish ts p r = IsGone ts p r

-- Why source k of the tenant at position p may not be asked for
abbrev pub IsNoLink : Source → List Tenant → ℕ → Refusal → Type 0
IsNoLink k ts p NotLet = at ts p ≡ None
IsNoLink k ts p HasAsked = Is ts p (λ t. (operand k t).way ≢ Unlinked)
IsNoLink k ts p r = ⊥

-- Why source k of the tenant at position p may not be delivered
abbrev pub IsNoDeliver : Source → List Tenant → ℕ → Refusal → Type 0
IsNoDeliver k ts p NotLet = at ts p ≡ None
IsNoDeliver k ts p NotAsked = Is ts p (λ t. (b : Bool) → (operand k t).way ≢ Linked b)
IsNoDeliver k ts p HasValue = Is ts p (λ t. (v : ℕ) × ((operand k t).value ≡ Some v))
IsNoDeliver k ts p (NothingMade c) =
    Is ts p (λ t. ((operand k t).creator ≡ c) × (value_of (older ts p) c ≡ None))
IsNoDeliver k ts p Gone = Is ts p (λ t. ¬ MayDeliver (older ts p) t k)
IsNoDeliver k ts p r = ⊥

-- Why the load at position p may not have its value
abbrev pub IsNoLoad : Program → List Tenant → ℕ → Refusal → Type 0
IsNoLoad P ts p NoLoad = Is ts p (λ t. (t.standing ≡ Live) × (kind_of P t ≢ Loads))
IsNoLoad P ts p NoAddress = Is ts p (λ t. (t.standing ≡ Live) × ((a : ℕ) → t.fate ≢ Addr a))
IsNoLoad P ts p (StoreAddress q) =
    IsInFlight ts p × (q < p) × Is ts q (λ t. (t.standing ≡ Live) × (kind_of P t ≡ Stores) × ((a : ℕ) → t.fate ≢ Addr a))
IsNoLoad P ts p NoByte =
    Is ts p (λ t. (a : ℕ) × (t.fate ≡ Addr a) × (raw_at P (older ts p) (instr P t) a ≡ None))
IsNoLoad P ts p r = IsGone ts p r

-- The load at position p has this value now
abbrev pub IsLoadValue : Program → List Tenant → ℕ → ℕ → Type 0
IsLoadValue P ts p v = Is ts p (λ t. v ≡ load_value P (older ts p) t)

-- Why the tenant at position p may not be squashed
abbrev pub IsNoSquash : List Tenant → ℕ → Refusal → Type 0
IsNoSquash ts p (Younger q) = IsInFlight ts p × (p < q) × IsInFlight ts q
IsNoSquash ts p NoMiss =
    IsInFlight ts p × ((q x : ℕ) (t : Tenant) → q < p → at ts q ≡ Some t → t.standing ≡ Live → t.fate ≢ Miss x)
IsNoSquash ts p r = IsGone ts p r

-- Why the tenant at position p may not be mended
abbrev pub IsNoMend : List Tenant → ℕ → Refusal → Type 0
IsNoMend ts p NotMissed = Is ts p (λ t. (t.standing ≡ Live) × ((x : ℕ) → t.fate ≢ Miss x))
IsNoMend ts p (Younger q) = IsInFlight ts p × (p < q) × IsInFlight ts q
IsNoMend ts p r = IsGone ts p r

-- Why the tenant at position p may not retire
abbrev pub IsNoRetire : Program → List Tenant → ℕ → Refusal → Type 0
IsNoRetire P ts p (Ended q c) =
    IsInFlight ts p × (q < p) × Is ts q (λ t. (t.standing ≡ HasRetired) × (t.fate ≡ Stopped c))
IsNoRetire P ts p (Older q) = IsInFlight ts p × (q < p) × IsInFlight ts q
IsNoRetire P ts p NotDone =
    Is ts p (λ t. (t.standing ≡ Live) × (¬ CanRetire (kind_of P t) t.second.value t.fate))
IsNoRetire P ts p r = IsGone ts p r

-- Why the tenant at position p may not guess a value
abbrev pub IsNoGuess : Program → List Tenant → ℕ → Refusal → Type 0
IsNoGuess P ts p NoLoad = Is ts p (λ t. (t.standing ≡ Live) × (kind_of P t ≢ Loads))
IsNoGuess P ts p HasBegun = Is ts p (λ t. (t.standing ≡ Live) × (t.fate ≡ Busy 0))
IsNoGuess P ts p HasEnded = Is ts p (λ t. (t.standing ≡ Live) × (¬ CanGuess t.fate))
IsNoGuess P ts p r = IsGone ts p r

-- The load has guessed another value than v, which none of the stores before it can still change
pub record HasOther (P : Program) (ts : List Tenant) (t : Tenant) (v : ℕ) : Type 0 where
  pub a : ℕ
  pub bytes : ℕ
  pub computes : computed P t ≡ Address a
  pub read : sure_raw_at P ts (instr P t) a ≡ Some bytes
  pub value : v ≡ loaded (instr P t).op bytes
  pub other : t.fate ≢ Guessed v

-- Why the value that the tenant at position p has guessed may not be confirmed
abbrev pub IsNoConfirm : Program → List Tenant → ℕ → Refusal → Type 0
IsNoConfirm P ts p NotGuessed = Is ts p (λ t. (t.standing ≡ Live) × ((v : ℕ) → t.fate ≢ Guessed v))
IsNoConfirm P ts p (Waits k c) =
    Is ts p (λ t. (t.standing ≡ Live) × (missing P t ≡ Some k) × ((operand k t).creator ≡ c))
IsNoConfirm P ts p BadAddress = Is ts p (λ t. (a : ℕ) → computed P t ≢ Address a)
IsNoConfirm P ts p (NotSure q) =
    Is ts p (λ t. (a : ℕ) × (computed P t ≡ Address a) × (sure_raw_at P (older ts p) (instr P t) a ≡ None))
IsNoConfirm P ts p (OtherValue v) =
    Is ts p (λ t. HasOther P (older ts p) t v)
IsNoConfirm P ts p r = IsGone ts p r

-- Why the tenant at position p may not be flushed
abbrev pub IsNoFlush : List Tenant → ℕ → Refusal → Type 0
IsNoFlush ts p (Younger q) = IsInFlight ts p × (p < q) × IsInFlight ts q
IsNoFlush ts p r = IsGone ts p r

-- The act by its name
abbrev pub act_of : Deed → Act
act_of (ToLink k) = Link k
act_of (ToDeliver k) = Deliver k
act_of ToFinish = Finish
act_of ToLoad = Load
act_of ToClaim = Claim
act_of ToRetire = Retire 0
act_of ToSquash = Squash
act_of ToMend = Mend
act_of (ToGuess v) = Speculate (Guess v)
act_of ToConfirm = Speculate Confirm
act_of ToFlush = Speculate Flush

-- Why an act on the tenant at position p is not allowed
abbrev pub Reason : Program → List Tenant → Deed → ℕ → Refusal → Type 0
Reason P ts (ToLink k) p r = IsNoLink k ts p r
Reason P ts (ToDeliver k) p r = IsNoDeliver k ts p r
Reason P ts ToFinish p r = IsNoFinish ts p r
Reason P ts ToLoad p r = IsNoLoad P ts p r
Reason P ts ToClaim p r = IsNoClaim P ts p r
Reason P ts ToRetire p r = IsNoRetire P ts p r
Reason P ts ToSquash p r = IsNoSquash ts p r
Reason P ts ToMend p r = IsNoMend ts p r
Reason P ts (ToGuess v) p r = IsNoGuess P ts p r
Reason P ts ToConfirm p r = IsNoConfirm P ts p r
Reason P ts ToFlush p r = IsNoFlush ts p r

-- An act that is refused for a reason is not allowed
abbrev pub EachReasonForbids : Type 0
EachReasonForbids =
    (P : Program) (ts : List Tenant) (deed : Deed) (p : ℕ) (r : Refusal) → Reason P ts deed p r →
    ¬ MayAct P ts 0 p (act_of deed)
