-- No lost wake: what follows of the marks of a legal history.
use Rattle.std.specs.Prelude.{◌≡◌, ◌≢◌, ℕ, List, ◌∷◌, ◌++◌, Some}
use Rattle.instructions.specs.Programs.{Program}
use Rattle.instructions.specs.declared.op.Kind.TheVariants.{Links}
use Rattle.instructions.specs.declared.stop.Stop.{Stop}
use Rattle.inorder.specs.declared.history.Entry.{Entry}
use Rattle.inorder.specs.declared.history.Event.TheVariants.{Marks}
use Rattle.inorder.specs.declared.history.Mark.{Mark}
use Rattle.inorder.specs.declared.history.Mark.TheVariants.{Asked, Walked}
use Rattle.inorder.specs.declared.history.Source.{Source}
use Rattle.inorder.specs.History.{entry, unit_of}
use Rattle.inorder.specs.Replies.{IsOpen}
use Rattle.inorder.specs.Tenants.{AtLet, IsThere, Stopped, Tenant, kind_of, operand}
use Rattle.inorder.specs.Unit.{Sizes, UpdateUnit, at}

-- A finish or a load made this tenant's value: it was not there from the start, nor taken at the
-- retirement of a stop
pub record IsMadeByCall (P : Program) (U : UpdateUnit) (q : ℕ) : Type 0 where
  pub tenant : Tenant
  pub is : at U.tenants q ≡ Some tenant
  pub value : ℕ
  pub made : tenant.made ≡ Some value
  pub kind : kind_of P tenant ≢ Links
  pub fate : (code : Stop) → tenant.fate ≢ Stopped code

-- The mark was made after this point
pub record IsMarked (h : List Entry) (mark : Mark) : Type 0 where
  pub more : List Entry
  pub by : ℕ
  pub point : List Entry
  pub is : h ≡ more ++ entry by (Marks mark) ∷ point

-- The walk along q's links is marked after the step that made q's value
pub record IsWalkedBehind (P : Program) (C : Sizes) (h : List Entry) (q : ℕ) : Type 0 where
  pub mark : IsMarked h (Walked q)
  pub made : IsMadeByCall P (unit_of P C mark.point) q

-- All that can be marked in this history is marked
pub record AreMarked (P : Program) (C : Sizes) (h : List Entry) : Type 0 where
  -- each finish or load that made a value has its mark after it
  pub walked : (q : ℕ) → IsMadeByCall P (unit_of P C h) q → IsWalkedBehind P C h q
  -- each source that was let to come from its creator has its mark
  pub asked : (p : ℕ) (t : Tenant) (k : Source) → at (unit_of P C h).tenants p ≡ Some t →
      (operand k t).way ≢ AtLet → IsMarked h (Asked p k)

-- No source of an open tenant waits for a creator whose finish or load made its value
abbrev pub LosesNoWake : Program → Sizes → List Entry → Type 0
LosesNoWake P C h =
    (p q : ℕ) (t : Tenant) (k : Source) → at (unit_of P C h).tenants p ≡ Some t → IsOpen t →
    (operand k t).way ≢ AtLet → (operand k t).creator ≡ Some q →
    IsMadeByCall P (unit_of P C h) q → IsThere (operand k t).value
