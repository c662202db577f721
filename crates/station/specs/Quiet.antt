-- What the caller of a unit's seat can tell, where others do nothing.
use Rattle.std.specs.Prelude.{◌≡◌, ◌≢◌, ◌⊎◌, ℕ, List, [], ◌∷◌, Some}
use Rattle.instructions.specs.Programs.{Program}
use Rattle.inorder.specs.declared.history.Entry.{Entry}
use Rattle.inorder.specs.Callers.{IsReady}
use Rattle.inorder.specs.History.{IsLegal, IsUnit, back, front, own, unit_of}
use Rattle.instructions.specs.Histories.{StartsWith}
use Rattle.inorder.specs.OneHistory.{Adds}
use Rattle.inorder.specs.Replies.{IsOpen, job_of}
use Rattle.inorder.specs.Tenants.{Tenant}
use Rattle.inorder.specs.Unit.{Sizes, front_pc, next_station, next_tag, recent}
use Rattle.ruu_words.specs.declared.rule.SpareNumbers.{SpareNumbers}
use Rattle.ruu_words.specs.Kinds.{IsTenant}
use Rattle.ruu_words.specs.Views.{IsSpare, half, other_half}
use Rattle.station.specs.declared.answers.Claim.{Claim}
use Rattle.station.specs.declared.answers.Claim.TheVariants.{Job as Claimed}
use Rattle.station.specs.declared.job.Job.{Job}
use Rattle.station.specs.declared.answers.Supply.TheVariants.{Known}
use Rattle.station.specs.declared.answers.Tenant.{Tenant as NewTenant}
use Rattle.station.specs.Claiming.{ClaimAnswers}
use Rattle.station.specs.Letting.{MayLetOut, let_of}
use Rattle.station.specs.Making.{first_unit, other_units}

-- The tenant is open, and the sources that it needs are delivered
pub record IsClaimable (P : Program) (t : Tenant) : Type 0 where
  pub is_open : IsOpen t
  pub ready : IsReady P t

-- From one of these histories to the other nobody has done anything but this unit and the back
abbrev pub IsQuiet : ℕ → List Entry → List Entry → Type 0
IsQuiet by old new = (n : ℕ) → n ≢ by → n ≢ back → own n new ≡ own n old

-- The answer is a job, with what this tenant has
pub record IsJobOf (P : Program) (answer : Claim) (t : Tenant) : Type 0 where
  pub job : Job
  pub is : answer ≡ Claimed job
  pub fields_are : job ≡ job_of P t

-- A claim at the station of a tenant that is open and ready is a job, where no other unit and not
-- the front does anything
abbrev pub ClaimsGiveJobs : Type 0
ClaimsGiveJobs =
    (P : Program) (C : Sizes) (by : ℕ) (old new : List Entry) (s g p : ℕ) (answer : Claim) →
    IsUnit by → (t : IsTenant (unit_of P C old) p s g (IsClaimable P)) → IsQuiet by old new →
    ClaimAnswers P C by old new s answer → IsJobOf P answer t.tenant

-- Each unit is the first, or one whose number the first may give away
abbrev pub UnitsAreNumbered : Type 0
UnitsAreNumbered = (n : ℕ) → IsUnit n → (n ≡ first_unit) ⊎ IsSpare other_units n

-- At a split each number that could be given away is the new unit's, or stays with one of the two
abbrev pub SplitsShareNumbers : Type 0
SplitsShareNumbers =
    (spare : SpareNumbers) (n : ℕ) → IsSpare spare n →
    (n ≡ spare.first) ⊎ (IsSpare (half spare) n ⊎ IsSpare (other_half spare) n)

-- The tenant has the instruction with which it was let, and the values that were known then
pub record IsLetAs (t : NewTenant) (pc : ℕ) (u : Tenant) : Type 0 where
  pub index_is : u.index ≡ t.index
  pub half_is : u.half ≡ t.half
  pub pc_is : u.pc ≡ pc
  pub predicted_is : u.predicted ≡ t.predicted
  pub first_is : (v : ℕ) → t.sources.0 ≡ Known v → u.first.value ≡ Some v
  pub second_is : (v : ℕ) → t.sources.1 ≡ Known v → u.second.value ≡ Some v

-- The tenant that was let is there, and open unless a unit has done something since
pub record IsOut (P : Program) (C : Sizes) (old new : List Entry) (t : NewTenant) : Type 0 where
  pub p : ℕ
  pub tenant : IsTenant (unit_of P C new) p (next_station C (recent (unit_of P C old))) (next_tag C (recent (unit_of P C old))) (IsLetAs t (front_pc (unit_of P C old).tenants))
  pub opens : ((n : ℕ) → IsUnit n → own n new ≡ own n old) → IsOpen tenant.tenant

-- After a let of the front its tenant is there, and open unless a unit has done something since
abbrev pub LetsAreOut : Type 0
LetsAreOut =
    (P : Program) (C : Sizes) (old new : List Entry) (t : NewTenant) →
    MayLetOut P C (unit_of P C old) t → Adds P C front old new (let_of t ∷ []) → IsOut P C old new t

-- The tenant is still open and ready, with its job
pub record IsStill (P : Program) (C : Sizes) (new : List Entry) (s g p : ℕ) (t : Tenant) : Type 0 where
  pub tenant : IsTenant (unit_of P C new) p s g (IsClaimable P)
  pub job_is : job_of P tenant.tenant ≡ job_of P t

-- Each tenant that was open and ready stays so, with its job, while nobody does anything but the back
abbrev pub ReadyTenantsStay : Type 0
ReadyTenantsStay =
    (P : Program) (C : Sizes) (old new : List Entry) (s g p : ℕ) →
    StartsWith new old → IsLegal P C new → ((n : ℕ) → n ≢ back → own n new ≡ own n old) →
    (t : IsTenant (unit_of P C old) p s g (IsClaimable P)) → IsStill P C new s g p t.tenant
