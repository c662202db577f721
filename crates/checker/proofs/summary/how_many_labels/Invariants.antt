use Rattle.std.proofs.Common.{◌≡◌, ◌+◌, ◌≤◌}
use Rattle.std.specs.Option.{option_map}
use Rattle.lexical.specs.Line.{lines_of, lines_left}
use Rattle.lexical.proofs.Splits.{size_left}
use Rattle.checker.specs.Diagnostics.{how_many_labels}
use Rattle.checker.proofs.Lengths.{total}
use Rattle.checker.proofs.summary.how_many_labels.Given as goal

abbrev pub invariant-loop-rest : goal.invariant-loop-rest
invariant-loop-rest l = record {
  count : l.n + how_many_labels (lines_left (option_map (λ t. t.now) l.rest)) ≡ how_many_labels (lines_of l.bytes);
  size : l.n + total (lines_left (option_map (λ t. t.now) l.rest)) ≤ total (lines_of l.bytes);
}

abbrev pub decreases-loop-rest : goal.decreases-loop-rest
decreases-loop-rest l = size_left (option_map (λ t. t.now) l.rest)
