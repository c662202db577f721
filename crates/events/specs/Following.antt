-- Steps of the unit that events tell, and others among them that no event tells.
use Rattle.std.specs.Prelude.{⊤, ◌≡◌, ◌⊎◌, List, [], ◌∷◌}
use Rattle.inorder.specs.declared.history.Act.TheVariants.{Deliver, Link, Mend}
use Rattle.inorder.specs.declared.history.Step.{Step as UnitStep}
use Rattle.inorder.specs.declared.history.Step.TheVariants.{On as UnitOn}
use Rattle.inorder.specs.Moves.{Leads}
use Rattle.replay.specs.declared.step.Step.{Step}
use Rattle.replay.specs.declared.unit.Unit.{Unit as Held}
use Rattle.replay.specs.Lets.{sizes_of, unit_of}
use Rattle.replay.specs.Placing.{IsQuiet}
use Rattle.replay.specs.Verdicts.{IsNamed}

-- A step that no event tells
abbrev pub IsUntold : UnitStep → Type 0
IsUntold (UnitOn p (Link k)) = ⊤
IsUntold (UnitOn p (Deliver k)) = ⊤
IsUntold (UnitOn p Mend) = ⊤
IsUntold _ = ⊥

-- These steps are those that are told, with others among them that no event tells; the last one is
-- the first of each list
abbrev pub AreTold : List Step → List UnitStep → Type 0
AreTold [] [] = ⊤
AreTold [] (t ∷ ts) = IsUntold t × AreTold [] ts
AreTold (s ∷ ss) [] = ⊥
AreTold (s ∷ ss) (t ∷ ts) = (IsNamed s t × AreTold ss ts) ⊎ (IsUntold t × AreTold (s ∷ ss) ts)

-- Legal steps lead from a unit to a later one: those that are told, and some that no event tells. Where no link and no
-- delivery was due before, none is due after
pub record Follows (u : Held) (told : List Step) (v : Held) : Type 0 where
  pub program : v.program.now ≡ u.program.now
  pub sizes : sizes_of v ≡ sizes_of u
  pub steps : List UnitStep
  pub leads : Leads u.program.now (sizes_of u) 0 (unit_of u) steps (unit_of v)
  pub are : AreTold told steps
  pub due : IsQuiet u → IsQuiet v
