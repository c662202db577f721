-- Steps without speculation: nobody guesses, confirms or flushes.
use Rattle.std.specs.Prelude.{⊤, ℕ, List}
use Rattle.std.specs.List.{AllByRecursion}
use Rattle.instructions.specs.Programs.{Program}
use Rattle.inorder.specs.declared.history.Act.{Act}
use Rattle.inorder.specs.declared.history.Act.TheVariants.{Speculate}
use Rattle.inorder.specs.declared.history.Step.{Step}
use Rattle.inorder.specs.declared.history.Step.TheVariants.{On}
use Rattle.inorder.specs.Legal.{Taken}
use Rattle.inorder.specs.Moves.{IsReached, Leads}
use Rattle.inorder.specs.Unit.{Sizes, UpdateUnit}

-- An act that does not run ahead of what the unit knows
abbrev pub IsPlainAct : Act → Type 0
IsPlainAct (Speculate s) = ⊥
IsPlainAct _ = ⊤

-- A step that does not speculate
abbrev pub IsPlain : Step → Type 0
IsPlain (On p act) = IsPlainAct act
IsPlain _ = ⊤

-- None of these steps speculates
abbrev pub ArePlain : List Step → Type 0
ArePlain steps = AllByRecursion IsPlain steps

-- None of the steps of a history speculates
abbrev pub WasPlain : List Taken → Type 0
WasPlain history = AllByRecursion (λ t. IsPlain t.step) history

-- U is reached by allowed steps that do not speculate, and was never renewed
pub record IsPlainlyReached (P : Program) (C : Sizes) (U : UpdateUnit) : Type 0 where
  pub reached : IsReached P C U
  pub plain : WasPlain reached.history

-- If the unit U is reached without speculation, so is the unit V
abbrev pub StaysPlain : Program → Sizes → UpdateUnit → UpdateUnit → Type 0
StaysPlain P C U V = IsPlainlyReached P C U → IsPlainlyReached P C V

-- A caller's steps that do not speculate lead from a unit that is reached so to one that is reached so
abbrev pub PlainLead : Program → Sizes → ℕ → Type 0
PlainLead P C by =
    (U V : UpdateUnit) (steps : List Step) → Leads P C by U steps V → ArePlain steps → StaysPlain P C U V
