-- Legal steps: which step a caller may take in a unit, and the unit after it.
use Rattle.std.specs.Prelude.{⊤, ◌≡◌, ℕ, suc, List, [], ◌∷◌, Option, Some, None}
use Rattle.instructions.specs.Programs.{Program}
use Rattle.inorder.specs.declared.history.Act.{Act}
use Rattle.inorder.specs.declared.history.Act.TheVariants.{Claim, Deliver, Finish, Link, Load, Mend, Retire, Speculate, Squash}
use Rattle.inorder.specs.declared.history.Step.{Step}
use Rattle.inorder.specs.declared.history.Step.TheVariants.{Let, On, Renew}
use Rattle.inorder.specs.Steps.{MayClaim, MayDeliver, MayFinish, MayLet, MayLink, MayLoad, MayMend, MayRenew, MayRetire, MaySquash, delivered, finished, linked, mended, new_tenant, retired, settled, squashed}
use Rattle.inorder.specs.Speculation.{MaySpeculate, speculated}
use Rattle.inorder.specs.Tenants.{Busy, Tenant, computed}
use Rattle.inorder.specs.Unit.{Sizes, UpdateUnit, at, empty_unit, older, replaced, younger}

-- What must hold of the tenant t, with ys after it and ts before it, where a caller acts on it
abbrev pub May : Program → ℕ → Act → List Tenant → Tenant → List Tenant → Type 0
May P by (Link k) ys t ts = MayLink t k
May P by (Deliver k) ys t ts = MayDeliver ts t k
May P by Claim ys t ts = MayClaim P t
May P by Finish ys t ts = MayFinish t by
May P by Load ys t ts = MayLoad P ts t
May P by (Retire n) ys t ts = MayRetire P n ts t
May P by Squash ys t ts = MaySquash ys t ts
May P by Mend ys t ts = MayMend ys t
May P by (Speculate s) ys t ts = MaySpeculate P s ys t ts

-- The tenant t after an act, with ts before it
abbrev pub changed : Program → ℕ → Act → Tenant → List Tenant → Tenant
changed P by (Link k) t ts = linked ts t k
changed P by (Deliver k) t ts = delivered ts t k
changed P by Claim t ts = record t { fate = Busy by }
changed P by Finish t ts = finished t (computed P t)
changed P by Load t ts = settled P ts t
changed P by (Retire n) t ts = retired t n
changed P by Squash t ts = squashed t
changed P by Mend t ts = mended t
changed P by (Speculate s) t ts = speculated s t

-- There is a tenant at position p, and the caller may act on it
pub record MayAct (P : Program) (ts : List Tenant) (by p : ℕ) (act : Act) : Type 0 where
  pub tenant : Tenant
  pub is : at ts p ≡ Some tenant
  pub may : May P by act (younger ts p) tenant (older ts p)

-- The caller may take this step in the unit
abbrev pub Allowed : Program → Sizes → UpdateUnit → ℕ → Step → Type 0
Allowed P C U by (Let index predicted first second) = MayLet P C U index predicted first second
Allowed P C U by (On p act) = MayAct P U.tenants by p act
Allowed P C U by Renew = MayRenew U

-- The tenants, with what becomes of the one at position p, if there is one
abbrev pub change_at : Program → List Tenant → ℕ → ℕ → Act → Option Tenant → List Tenant
change_at P ts by p act None = ts
change_at P ts by p act (Some t) = replaced ts p (changed P by act t (older ts p))

-- The unit after a step
abbrev pub applied : Program → Sizes → UpdateUnit → ℕ → Step → UpdateUnit
applied P C U by (Let index predicted first second) =
    record {
      tenants = new_tenant P C U index predicted first second ∷ U.tenants;
      fresh = suc U.fresh;
    }
applied P C U by (On p act) =
    record U { tenants = change_at P U.tenants by p act (at U.tenants p) }
applied P C U by Renew = record U { fresh = 0 }

-- A step, with the number of its caller
pub record Taken : Type 0 where
  pub by : ℕ
  pub step : Step

-- The unit after these steps, the last one first
abbrev pub reached : Program → Sizes → List Taken → UpdateUnit
reached P C [] = empty_unit
reached P C (s ∷ ss) = applied P C (reached P C ss) s.by s.step

-- Each step was allowed in the unit that the steps before it reach
abbrev pub AreAllowed : Program → Sizes → List Taken → Type 0
AreAllowed P C [] = ⊤
AreAllowed P C (s ∷ ss) = AreAllowed P C ss × Allowed P C (reached P C ss) s.by s.step
