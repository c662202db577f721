-- What the operand words of a station show, and how each step moves them.
use Rattle.std.specs.Prelude.{⊤, ◌≡◌, ◌≢◌, ◌⊎◌, ℕ, true, false, List, Option, Some, None, ◌==◌, if◌then◌else◌}
use Rattle.instructions.specs.Programs.{Program}
use Rattle.inorder.specs.declared.history.Act.{Act}
use Rattle.inorder.specs.declared.history.Act.TheVariants.{Deliver}
use Rattle.inorder.specs.declared.history.Source.{Source}
use Rattle.inorder.specs.declared.history.Source.TheVariants.{First, Second}
use Rattle.inorder.specs.declared.history.Step.TheVariants.{Let, On}
use Rattle.inorder.specs.declared.history.Supply.{Supply}
use Rattle.inorder.specs.declared.history.Supply.TheVariants.{From, Known}
use Rattle.inorder.specs.Legal.{Allowed, AreAllowed, Taken, applied, reached}
use Rattle.inorder.specs.StationWords.{last_of}
use Rattle.inorder.specs.Tenants.{Tenant, operand}
use Rattle.inorder.specs.Unit.{Sizes, UpdateUnit, at, is_old, next_station, next_tag, older, recent, value_of}

-- The tag of the station's last tenant, and the value of that tenant's source, or none while it
-- waits
pub record OperandWord : Type 0 where
  pub tag : ℕ
  pub value : Option ℕ

-- The operand word that a station's last tenant leaves
abbrev pub operand_word_of : Source → Option Tenant → Option OperandWord
operand_word_of k None = None
operand_word_of k (Some t) = Some (record { tag = t.tag; value = (operand k t).value })

-- The word of source k of station s
abbrev pub operand_word : List Tenant → ℕ → Source → Option OperandWord
operand_word ts s k = operand_word_of k (last_of ts s)

-- The supply of source k, of the two
abbrev pub supply_for : Source → Supply → Supply → Supply
supply_for First first second = first
supply_for Second first second = second

-- The value, if it is known at the let
abbrev pub supplied : Supply → Option ℕ
supplied (Known v) = Some v
supplied From = None

-- An operand of a new tenant
abbrev pub let_word : ℕ → Supply → OperandWord
let_word tag s = record { tag = tag; value = supplied s }

-- Any act but a delivery
abbrev pub KeepsOperands : Act → Type 0
KeepsOperands (Deliver k) = ⊥
KeepsOperands _ = ⊤

-- How a step moves the operand words
pub record MovesOperands (P : Program) (C : Sizes) (U : UpdateUnit) (by : ℕ) : Type 0 where
  -- a let gives both operands of its station, with its tag
  pub after_let : (index predicted : ℕ) (first second : Supply) (s : ℕ) (k : Source) →
      operand_word (recent (applied P C U by (Let index predicted first second))) s k ≡
      (if next_station C (recent U) == s
      then Some (let_word (next_tag C (recent U)) (supply_for k first second))
      else operand_word (recent U) s k)
  -- a delivery to the last tenant of a station gives its operand the value
  pub to_last : (p : ℕ) (k : Source) (t : Tenant) → Allowed P C U by (On p (Deliver k)) →
      at U.tenants p ≡ Some t → is_old U p ≡ false → last_of (recent U) t.station ≡ Some t →
      operand_word (recent (applied P C U by (On p (Deliver k)))) t.station k ≡
      Some (record { tag = t.tag; value = value_of (older U.tenants p) (operand k t).creator })
  -- a delivery changes no other operand; one to an older tenant of the station changes none
  pub elsewhere : (p : ℕ) (k : Source) (t : Tenant) (s : ℕ) (j : Source) →
      Allowed P C U by (On p (Deliver k)) → at U.tenants p ≡ Some t →
      (is_old U p ≡ true) ⊎ (last_of (recent U) s ≢ Some t) ⊎ (j ≢ k) →
      operand_word (recent (applied P C U by (On p (Deliver k)))) s j ≡ operand_word (recent U) s j
  pub kept : (p : ℕ) (act : Act) (s : ℕ) (j : Source) → KeepsOperands act →
      Allowed P C U by (On p act) →
      operand_word (recent (applied P C U by (On p act))) s j ≡ operand_word (recent U) s j

-- The steps move the operand words so in the unit that these steps reach, if each was allowed
abbrev pub OperandsFollow : Program → Sizes → List Taken → ℕ → Type 0
OperandsFollow P C history by =
    AreAllowed P C history → MovesOperands P C (reached P C history) by
