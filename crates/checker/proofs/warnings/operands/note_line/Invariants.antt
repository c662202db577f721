use Rattle.std.proofs.Common.{◌≡◌, ℕ, List}
use Rattle.std.specs.Prelude.{◌||◌}
use Rattle.std.specs.Option.{option_map}
use Rattle.lexical.specs.Operand.{operands_left}
use Rattle.lexical.proofs.Splits.{size_left}
use Rattle.isa.specs.Listing.{stands_in}
use Rattle.checker.specs.Keys.{has_key}
use Rattle.checker.specs.Parts.{operands_of_line}
use Rattle.checker.proofs.warnings.operands.note_line.Given as goal

abbrev pub invariant-loop-rest : goal.invariant-loop-rest
invariant-loop-rest l =
    (name : List ℕ) → (has_key l.operands name || stands_in (operands_left (option_map (λ t. t.now) l.rest)) name)
    ≡ (has_key l.initial.operands name || stands_in (operands_of_line l.line) name)

abbrev pub decreases-loop-rest : goal.decreases-loop-rest
decreases-loop-rest l = size_left (option_map (λ t. t.now) l.rest)
