use Rattle.std.proofs.Common.{◌≡◌, drop}
use Rattle.std.specs.Option.{option_map}
use Rattle.lexical.specs.Line.{lines_of, lines_left}
use Rattle.lexical.proofs.Splits.{size_left}
use Rattle.checker.specs.Warnings.{AreWarnedOf, begin_with_data}
use Rattle.checker.proofs.warnings.push_lines.Given as goal

abbrev pub invariant-loop-rest : goal.invariant-loop-rest
invariant-loop-rest l = record {
  rest : lines_left (option_map (λ t. t.now) l.rest) ≡ drop l.number (lines_of l.good.bytes.now);
  is_data : l.is_data ≡ begin_with_data (lines_left (option_map (λ t. t.now) l.rest));
  warned : AreWarnedOf l.good l.initial.text.items l.text.items;
}

abbrev pub decreases-loop-rest : goal.decreases-loop-rest
decreases-loop-rest l = size_left (option_map (λ t. t.now) l.rest)
