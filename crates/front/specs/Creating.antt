-- The creator of a register, as it is asked for from outside.
use Rattle.std.specs.Prelude.{◌≡◌, ℕ, ◌≤◌, Some}
use Rattle.instructions.specs.Programs.{Program}
use Rattle.inorder.specs.Callers.{IsLastAt}
use Rattle.inorder.specs.Tenants.{Tenant}
use Rattle.inorder.specs.Unit.{UpdateUnit, at, creator, value_of}
use Rattle.ruu_words.specs.Kinds.{IsNamed}
use Rattle.front.specs.declared.answers.Made.{Made}
use Rattle.front.specs.declared.answers.Made.TheVariants.{Base, Made as IsMade}

-- The creator is this tenant, none of the first `told`, and its station was not let again
pub record IsMaker (P : Program) (U : UpdateUnit) (told r station tag : ℕ) : Type 0 where
  pub p : ℕ
  pub creates : creator P U.tenants r ≡ Some p
  pub untold : told ≤ p
  pub named : IsNamed U p station tag
  pub last : IsLastAt U p station

-- This is the value of its creator, whose station was let again or which is one of the first `told`, or
-- 0 where there is none
pub record IsBase (P : Program) (U : UpdateUnit) (told r v : ℕ) : Type 0 where
  pub value : value_of U.tenants (creator P U.tenants r) ≡ Some v
  pub again : (p : ℕ) (t : Tenant) → creator P U.tenants r ≡ Some p → at U.tenants p ≡ Some t →
      told ≤ p → ¬ IsLastAt U p t.station

-- The answer for register r: its creator, or the value that older tenants left
abbrev pub IsCreatorAnswer : Program → UpdateUnit → ℕ → ℕ → Made → Type 0
IsCreatorAnswer P U told r (IsMade station tag) = IsMaker P U told r station tag
IsCreatorAnswer P U told r (Base v) = IsBase P U told r v
