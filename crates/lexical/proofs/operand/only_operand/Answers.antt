use Rattle.std.proofs.Common.{◌∷◌, ℕ, List, Option, Bor, ◌∙◌, ap}
use Rattle.std.specs.Option.{option_map}
use Rattle.lexical.specs.Operand.{operands_left}
use Rattle.lexical.proofs.Operands.{only_more}
use Rattle.lexical.proofs.operand.only_operand.Goals as goal

abbrev left_of : Option (Bor (List ℕ)) → List (List ℕ)
left_of rest = operands_left (option_map (λ t. t.now) rest)

pub returns-in-Some : goal.returns-in-Some
returns-in-Some c =
    only_more (left_of c.args.part) c.next_operand.result.0.now c.in-Some.field-0.now
    (ap left_of c.in_ok-part.was ∙ c.next_operand.ensures.operands ∙ ap (λ r. c.next_operand.result.0.now ∷ left_of r) c.in-Some.is)
