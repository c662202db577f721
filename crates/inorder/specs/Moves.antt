-- Several steps that one caller takes in a unit, one after another.
use Rattle.std.specs.Prelude.{⊤, ◌≡◌, ℕ, suc, List, [], ◌∷◌, ◌++◌, length}
use Rattle.std.specs.List.{AllByRecursion}
use Rattle.instructions.specs.Programs.{Program}
use Rattle.inorder.specs.declared.history.Act.TheVariants.{Deliver, Link, Squash}
use Rattle.inorder.specs.declared.history.Step.{Step}
use Rattle.inorder.specs.declared.history.Step.TheVariants.{Let, On, Renew}
use Rattle.inorder.specs.Committed.{committed}
use Rattle.inorder.specs.Laws.{IsNoRetire}
use Rattle.inorder.specs.Legal.{Allowed, AreAllowed, Taken, applied, reached}
use Rattle.inorder.specs.Tenants.{Tenant}
use Rattle.inorder.specs.Unit.{Sizes, UpdateUnit}

-- The unit after a caller's steps, the last one first
abbrev pub run_on : Program → Sizes → ℕ → UpdateUnit → List Step → UpdateUnit
run_on P C by U [] = U
run_on P C by U (s ∷ ss) = applied P C (run_on P C by U ss) by s

-- A step that is allowed, and no renewal
abbrev pub MayTake : Program → Sizes → UpdateUnit → ℕ → Step → Type 0
MayTake P C U by (Let index predicted first second) =
    Allowed P C U by (Let index predicted first second)
MayTake P C U by (On p act) = Allowed P C U by (On p act)
MayTake P C U by Renew = ⊥

-- Each may be taken after those before it
abbrev pub MayRun : Program → Sizes → ℕ → UpdateUnit → List Step → Type 0
MayRun P C by U [] = ⊤
MayRun P C by U (s ∷ ss) = MayRun P C by U ss × MayTake P C (run_on P C by U ss) by s

-- A caller's steps are allowed from U on, and lead to V
pub record Leads (P : Program) (C : Sizes) (by : ℕ) (U : UpdateUnit) (steps : List Step)
    (V : UpdateUnit) : Type 0 where
  pub may : MayRun P C by U steps
  pub is : run_on P C by U steps ≡ V

-- U is reached by steps that are allowed, and was never renewed
pub record IsReached (P : Program) (C : Sizes) (U : UpdateUnit) : Type 0 where
  pub history : List Taken
  pub allowed : AreAllowed P C history
  pub is : reached P C history ≡ U
  pub never : U.fresh ≡ length U.tenants

-- The unit with other tenants
abbrev pub with_tenants : UpdateUnit → List Tenant → UpdateUnit
with_tenants U ts = record U { tenants = ts }

-- The unit with one more tenant
abbrev pub with_let : UpdateUnit → Tenant → UpdateUnit
with_let U t = record { tenants = t ∷ U.tenants; fresh = suc U.fresh }

-- A squash
abbrev pub IsSquash : Step → Type 0
IsSquash (On p Squash) = ⊤
IsSquash _ = ⊥

-- A source of a tenant is linked
abbrev pub IsLink : Step → Type 0
IsLink (On p (Link k)) = ⊤
IsLink _ = ⊥

-- A value is delivered to a source
abbrev pub IsDeliver : Step → Type 0
IsDeliver (On p (Deliver k)) = ⊤
IsDeliver _ = ⊥

-- The result of several steps of one caller, from a unit that is reached: so is the unit to which
-- they lead, and it has committed the same, unless one of them is a retirement
pub record SeveralLead (P : Program) (C : Sizes) (by : ℕ) : Type 0 where
  pub reached : (U V : UpdateUnit) (steps : List Step) → IsReached P C U →
      Leads P C by U steps V → IsReached P C V
  pub committed : (U V : UpdateUnit) (steps : List Step) → IsReached P C U →
      Leads P C by U steps V → AllByRecursion IsNoRetire steps →
      committed P V.tenants ≡ committed P U.tenants

-- The steps that lead from U to V, and then those from V to W, lead from U to W
abbrev pub LeadOn : Program → Sizes → ℕ → Type 0
LeadOn P C by =
    (U V W : UpdateUnit) (more steps : List Step) → Leads P C by U steps V →
    Leads P C by V more W → Leads P C by U (more ++ steps) W
