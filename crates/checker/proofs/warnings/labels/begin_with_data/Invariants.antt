use Rattle.std.proofs.Common.{◌≡◌}
use Rattle.std.specs.Option.{option_map}
use Rattle.lexical.specs.Line.{lines_left}
use Rattle.lexical.proofs.Splits.{size_left}
use Rattle.checker.specs.Warnings.{begin_with_data}
use Rattle.checker.proofs.warnings.labels.begin_with_data.Given as goal

abbrev pub invariant-loop-rest : goal.invariant-loop-rest
invariant-loop-rest l =
    begin_with_data (lines_left (option_map (λ t. t.now) l.rest)) ≡ begin_with_data (lines_left (option_map (λ t. t.now) l.text))

abbrev pub decreases-loop-rest : goal.decreases-loop-rest
decreases-loop-rest l = size_left (option_map (λ t. t.now) l.rest)
