use Rattle.std.proofs.Common.{◌≡◌, ◌+◌, ◌≤◌, ◌%◌, length}
use Rattle.std.specs.Option.{option_map}
use Rattle.lexical.specs.Line.{lines_of, lines_left}
use Rattle.lexical.proofs.Splits.{size_left}
use Rattle.isa.proofs.Whole.{LinesSoFar}
use Rattle.isa.proofs.listing.read_lines.Given as goal

abbrev pub invariant-loop-rest : goal.invariant-loop-rest
invariant-loop-rest l = record {
  small_code : length l.code.items ≤ 16384;
  small_memory : length l.memory.items ≤ 65536;
  aligned : length l.memory.items % 4 ≡ 0;
  size : l.number + size_left (option_map (λ t. t.now) l.rest) ≤ length l.bytes + 1;
  lines :
      LinesSoFar l.labels l.code.items l.targets.items l.memory.items l.number (lines_left (option_map (λ t. t.now) l.rest)) (lines_of l.bytes);
}

abbrev pub decreases-loop-rest : goal.decreases-loop-rest
decreases-loop-rest l = size_left (option_map (λ t. t.now) l.rest)
