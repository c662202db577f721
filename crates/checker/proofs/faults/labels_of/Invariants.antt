use Rattle.std.specs.Option.{option_map}
use Rattle.lexical.specs.Line.{lines_of, lines_left}
use Rattle.lexical.proofs.Splits.{size_left}
use Rattle.checker.proofs.LabelsNoted.{AreSoFar}
use Rattle.checker.proofs.faults.labels_of.Given as goal

abbrev pub invariant-loop-rest : goal.invariant-loop-rest
invariant-loop-rest l = AreSoFar l.names (lines_left (option_map (λ t. t.now) l.rest)) (lines_of l.bytes)

abbrev pub decreases-loop-rest : goal.decreases-loop-rest
decreases-loop-rest l = size_left (option_map (λ t. t.now) l.rest)
