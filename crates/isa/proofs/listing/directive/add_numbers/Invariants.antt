use Rattle.std.proofs.Common.{◌≡◌, ◌%◌, length}
use Rattle.std.specs.Option.{option_map}
use Rattle.lexical.specs.Operand.{operands_left}
use Rattle.lexical.proofs.Splits.{size_left}
use Rattle.isa.proofs.Bytes.{BytesSoFar}
use Rattle.isa.proofs.listing.directive.add_numbers.Given as goal

abbrev pub invariant-loop-rest : goal.invariant-loop-rest
invariant-loop-rest l = record {
  aligned : length l.fn.memory.items % 4 ≡ 0 → length l.memory.items % 4 ≡ 0;
  bytes : BytesSoFar l.fn.memory.items l.memory.items (operands_left (option_map (λ t. t.now) l.rest)) (operands_left (option_map (λ t. t.now) l.part));
}

abbrev pub decreases-loop-rest : goal.decreases-loop-rest
decreases-loop-rest l = size_left (option_map (λ t. t.now) l.rest)
