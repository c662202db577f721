use Rattle.std.proofs.Common.{◌≡◌, ◌-◌, slice_get}
use Rattle.std.specs.Option.{option_map}
use Rattle.lexical.specs.Line.{lines_of, lines_left}
use Rattle.lexical.proofs.Splits.{size_left}
use Rattle.checker.proofs.explanation.numbered_line.Given as goal

abbrev pub invariant-loop-rest : goal.invariant-loop-rest
invariant-loop-rest l =
    slice_get (lines_left (option_map (λ t. t.now) l.rest)) l.left ≡ slice_get (lines_of l.text) (l.number - 1)

abbrev pub decreases-loop-rest : goal.decreases-loop-rest
decreases-loop-rest l = size_left (option_map (λ t. t.now) l.rest)
