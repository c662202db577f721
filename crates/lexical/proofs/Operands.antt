-- The operands that are left.
use Rattle.std.proofs.Common.{◌≡◌, ℕ, eqb, List, ◌∷◌, ◌∙◌, map, Some, None, sym, ap}
use Rattle.lexical.specs.Blank.{trim}
use Rattle.lexical.specs.Operand.{operands_left, only}
use Rattle.lexical.proofs.Labels.{split_shape}

-- where something is left behind an operand, it is not the only one
pub only_more : (part : List (List ℕ)) (t rest : List ℕ) → part ≡ t ∷ operands_left (Some rest) → None ≡ only part
only_more part t rest is =
    let s = split_shape (λ b. eqb b 44) rest in
    sym (ap only (is ∙ ap (λ (parts : List (List ℕ)). t ∷ map trim parts) s.2))
