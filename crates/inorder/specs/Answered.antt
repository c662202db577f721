-- Each call of a unit and of the back has an answer, in every legal history: its step is allowed,
-- or a refusal is.
use Rattle.std.specs.Prelude.{◌≡◌, ◌⊎◌, ℕ, List, Some}
use Rattle.instructions.specs.Programs.{Program}
use Rattle.inorder.specs.declared.history.Act.TheVariants.{Claim, Finish, Retire}
use Rattle.inorder.specs.declared.history.Entry.{Entry}
use Rattle.inorder.specs.declared.history.Event.TheVariants.{Does, Refuses}
use Rattle.inorder.specs.declared.history.Refusal.TheVariants.{Empty, NotDone, NotOpen, Over, Stale, Waiting}
use Rattle.inorder.specs.declared.history.Source.{Source}
use Rattle.inorder.specs.declared.history.Step.TheVariants.{On}
use Rattle.inorder.specs.History.{IsLegal, IsUnit, MayAdd, back, unit_of}
use Rattle.inorder.specs.Tenants.{Busy, Tenant}
use Rattle.inorder.specs.Unit.{Sizes, at}

-- A unit that has claimed a tenant may finish it, or is told that it is stale
abbrev pub FinishIsAnswered : Program → Sizes → List Entry → Type 0
FinishIsAnswered P C h =
    (by p : ℕ) (t : Tenant) → IsUnit by → IsLegal P C h → at (unit_of P C h).tenants p ≡ Some t →
    t.fate ≡ Busy by →
    MayAdd P C h by (Does (On p Finish)) ⊎ MayAdd P C h by (Refuses (Stale p))

-- A tenant of this station may be claimed, or waits for a source
pub record IsClaimedOrWaits (P : Program) (C : Sizes) (h : List Entry) (by s : ℕ) : Type 0 where
  pub p : ℕ
  pub tenant : Tenant
  pub is : at (unit_of P C h).tenants p ≡ Some tenant
  pub station : tenant.station ≡ s
  pub answer : MayAdd P C h by (Does (On p Claim)) ⊎
      ((k : Source) × MayAdd P C h by (Refuses (Waiting p k)))

-- A claim of a station is answered: it has no open tenant, or one that may be claimed, or one that waits
abbrev pub ClaimIsAnswered : Program → Sizes → List Entry → Type 0
ClaimIsAnswered P C h =
    (by s : ℕ) → IsUnit by → IsLegal P C h →
    MayAdd P C h by (Refuses (NotOpen s)) ⊎ IsClaimedOrWaits P C h by s

-- The oldest tenant may retire
abbrev pub MayRetireOne : Program → Sizes → List Entry → Type 0
MayRetireOne P C h = (p : ℕ) × MayAdd P C h back (Does (On p (Retire 0)))

-- A retirement has one answer
pub record RetirementIsAnswered (P : Program) (C : Sizes) (h : List Entry) : Type 0 where
  pub answer : MayRetireOne P C h ⊎ MayAdd P C h back (Refuses NotDone) ⊎
      MayAdd P C h back (Refuses Empty) ⊎ MayAdd P C h back (Refuses Over)
  pub not_done : MayAdd P C h back (Refuses NotDone) → ¬ MayRetireOne P C h
  pub empty : MayAdd P C h back (Refuses Empty) →
      ¬ MayRetireOne P C h × ¬ MayAdd P C h back (Refuses NotDone)
  pub over : MayAdd P C h back (Refuses Over) →
      ¬ MayRetireOne P C h × ¬ MayAdd P C h back (Refuses NotDone) ×
      ¬ MayAdd P C h back (Refuses Empty)
