use Rattle.std.proofs.Common.{◌≡◌, ◌≤◌, drop, length}
use Rattle.std.specs.Option.{option_map}
use Rattle.lexical.specs.Line.{lines_of, lines_left}
use Rattle.lexical.proofs.Splits.{size_left}
use Rattle.checker.specs.Faults.{IsSmall}
use Rattle.checker.proofs.FaultsFound.{HaveFound}
use Rattle.checker.proofs.faults.faults.Given as goal

abbrev pub invariant-loop-rest : goal.invariant-loop-rest
invariant-loop-rest l = record {
  rest : lines_left (option_map (λ t. t.now) l.rest) ≡ drop l.number (lines_of l.bytes);
  small : IsSmall l.seen;
  few : length l.found.items ≤ 200;
  found : HaveFound l.seen l.found.items l.number (lines_left (option_map (λ t. t.now) l.rest)) (lines_of l.bytes);
}

abbrev pub decreases-loop-rest : goal.decreases-loop-rest
decreases-loop-rest l = size_left (option_map (λ t. t.now) l.rest)
