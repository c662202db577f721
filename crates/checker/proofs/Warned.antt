-- Warnings, one behind the other.
use Rattle.std.proofs.Common.{◌++◌, ℕ, List, [], ◌∷◌, refl, subst}
use Rattle.instructions.specs.Programs.{Program}
use Rattle.checker.specs.declared.parts.Part.{Part}
use Rattle.checker.specs.declared.warnings.Warning.{Warning}
use Rattle.checker.specs.declared.warnings.Warning.TheVariants.{NeverUsed, AtData, StackUnset, Unreached, PastEnd}
use Rattle.checker.specs.Warnings.{Applies, Warned, IsOfInstruction, IsWarning, AreWarnings, AreWarned, StandsOn}

-- no warning
pub none_warned : (file bytes : List ℕ) (P : Program) (text : List ℕ) → AreWarned file bytes P text text
none_warned file bytes P text = ([], refl)

-- one warning
pub one_warned : (file bytes : List ℕ) (P : Program) (w : Warned) (old new : List ℕ) → IsWarning file bytes P w old new → AreWarned file bytes P old new
one_warned file bytes P w old new is = (w ∷ [], (new, (is, refl)))

joined : (file bytes : List ℕ) (P : Program) (ws vs : List Warned) (old text new : List ℕ) → AreWarnings file bytes P ws old text
    → AreWarnings file bytes P vs text new → AreWarnings file bytes P (ws ++ vs) old new
joined file bytes P [] vs old text new first second = subst (λ (t : List ℕ). AreWarnings file bytes P vs t new) first second
joined file bytes P (w ∷ ws) vs old text new first second =
    (first.0, (first.1.0, joined file bytes P ws vs first.0 text new first.1.1 second))

-- warnings behind warnings
pub all_warned : (file bytes : List ℕ) (P : Program) (old text new : List ℕ) → AreWarned file bytes P old text
    → AreWarned file bytes P text new → AreWarned file bytes P old new
all_warned file bytes P old text new first second = (first.0 ++ second.0, joined file bytes P first.0 second.0 old text new first.1 second.1)

-- the warning of an instruction is one of its line
pub of_instruction : (bytes : List ℕ) (P : Program) (k n : ℕ) (line : List ℕ) (part : Part) (w : Warning) → StandsOn bytes k n
    → IsOfInstruction P k w → Applies bytes P n line part w
of_instruction bytes P k n line part NeverUsed stands is = absurd is
of_instruction bytes P k n line part AtData stands is = absurd is
of_instruction bytes P k n line part StackUnset stands is = (k, (stands, is))
of_instruction bytes P k n line part Unreached stands is = (k, (stands, is))
of_instruction bytes P k n line part PastEnd stands is = (k, (stands, is))
