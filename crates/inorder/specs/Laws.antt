-- Where the tenants of a unit stand, what a step commits, and what a longer history keeps.
use Rattle.std.specs.Prelude.{⊤, ◌≡◌, ◌≢◌, ℕ, ◌%◌, ◌≤◌, true, List, ◌++◌, Some, if◌then◌else◌}
use Rattle.std.specs.List.{AllByRecursion}
use Rattle.instructions.specs.Programs.{Program}
use Rattle.inorder.specs.declared.history.Act.TheVariants.{Retire}
use Rattle.inorder.specs.declared.history.Step.{Step}
use Rattle.inorder.specs.declared.history.Step.TheVariants.{On}
use Rattle.inorder.specs.Committed.{ahead, commits, committed, completes, with_retired, with_tenant}
use Rattle.inorder.specs.Legal.{Allowed, AreAllowed, Taken, applied, reached}
use Rattle.inorder.specs.Steps.{retired}
use Rattle.inorder.specs.Tenants.{Live, Tenant, is_first, is_live, on_path}
use Rattle.inorder.specs.Unit.{Sizes, UpdateUnit, at, how_many, older, recent, younger}

-- At most as many live tenants as stations, each of the path at its place on the path, and a live
-- one the last of its station
pub record FitsRing (C : Sizes) (ts : List Tenant) : Type 0 where
  pub room : how_many is_live ts ≤ C.ring
  pub place : (p : ℕ) (t : Tenant) → at ts p ≡ Some t → on_path t ≡ true →
      t.station ≡ how_many on_path (older ts p) % C.ring
  pub last : (p : ℕ) (t : Tenant) → at ts p ≡ Some t → t.standing ≡ Live →
      AllByRecursion (λ u. u.station ≢ t.station) (younger ts p)

-- The tenants let since the last renewal are such a ring in each unit that allowed steps reach
abbrev pub StandsRight : Program → Sizes → List Taken → Type 0
StandsRight P C history = AreAllowed P C history → FitsRing C (recent (reached P C history))

-- A station and a tag name one tenant
abbrev pub Names : List Tenant → Type 0
Names ts =
    (p q : ℕ) (t u : Tenant) → at ts p ≡ Some t → at ts q ≡ Some u →
    t.station ≡ u.station → t.tag ≡ u.tag → p ≡ q

-- A station and a tag name one of the tenants let since the last renewal, in each unit that allowed
-- steps reach
abbrev pub NamesOne : Program → Sizes → List Taken → Type 0
NamesOne P C history = AreAllowed P C history → Names (recent (reached P C history))

-- Any step but a retirement
abbrev pub IsNoRetire : Step → Type 0
IsNoRetire (On p (Retire n)) = ⊥
IsNoRetire _ = ⊤

-- A retirement commits its tenant, unless that is a stop, and nothing else commits anything
pub record Commits (P : Program) (C : Sizes) (U : UpdateUnit) (by : ℕ) : Type 0 where
  pub by_retire : (p n : ℕ) (t : Tenant) → Allowed P C U by (On p (Retire n)) →
      at U.tenants p ≡ Some t →
      committed P (applied P C U by (On p (Retire n))).tenants ≡
      (if completes P (retired t n)
      then with_tenant P (retired t n) (ahead P U.tenants)
      else committed P U.tenants)
  pub by_others : (s : Step) → IsNoRetire s → Allowed P C U by s →
      committed P (applied P C U by s).tenants ≡ committed P U.tenants
  -- the write of a first half waits in the state that a new tenant finds
  pub waits : (p n : ℕ) (t : Tenant) → Allowed P C U by (On p (Retire n)) →
      at U.tenants p ≡ Some t →
      ahead P (applied P C U by (On p (Retire n))).tenants ≡
      (if commits (retired t n)
      then with_retired (is_first P (retired t n)) P (retired t n) (ahead P U.tenants)
      else ahead P U.tenants)
  pub waits_on : (s : Step) → IsNoRetire s → Allowed P C U by s →
      ahead P (applied P C U by s).tenants ≡ ahead P U.tenants

-- Retirements alone commit in the unit that these steps reach, if each was allowed
abbrev pub OnlyRetirementsCommit : Program → Sizes → List Taken → ℕ → Type 0
OnlyRetirementsCommit P C history by =
    AreAllowed P C history → Commits P C (reached P C history) by

-- A beginning of an allowed history is allowed, and has committed no more
pub record HistoryGrows (P : Program) (C : Sizes) (more history : List Taken) : Type 0 where
  pub allowed : AreAllowed P C (more ++ history) → AreAllowed P C history
  pub count : AreAllowed P C (more ++ history) →
      (committed P (reached P C history).tenants).count ≤
      (committed P (reached P C (more ++ history)).tenants).count
