use Rattle.std.proofs.Common.{◌≡◌, ℕ, List}
use Rattle.std.specs.Prelude.{◌||◌}
use Rattle.std.specs.Option.{option_map}
use Rattle.lexical.specs.Line.{lines_of, lines_left}
use Rattle.lexical.proofs.Splits.{size_left}
use Rattle.isa.specs.Listing.{stands_in}
use Rattle.checker.specs.Keys.{has_key}
use Rattle.checker.specs.Warnings.{all_operands}
use Rattle.checker.proofs.warnings.operands.operands_of.Given as goal

abbrev pub invariant-loop-rest : goal.invariant-loop-rest
invariant-loop-rest l =
    (name : List ℕ) → (has_key l.operands name || stands_in (all_operands (lines_left (option_map (λ t. t.now) l.rest))) name)
    ≡ stands_in (all_operands (lines_of l.bytes)) name

abbrev pub decreases-loop-rest : goal.decreases-loop-rest
decreases-loop-rest l = size_left (option_map (λ t. t.now) l.rest)
