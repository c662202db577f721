use Rattle.std.proofs.Common.{◌≡◌, ◌+◌, ◌≤◌}
use Rattle.std.specs.Option.{option_map}
use Rattle.lexical.specs.Operand.{operands_left}
use Rattle.lexical.proofs.Splits.{size_left}
use Rattle.isa.specs.Spots.{data_spot}
use Rattle.isa.proofs.listing.spot.spot_in_data.Given as goal

abbrev pub invariant-loop-rest : goal.invariant-loop-rest
invariant-loop-rest l = record {
  spot :
      data_spot l.n (operands_left (option_map (λ t. t.now) l.rest)) ≡ data_spot 0 (operands_left (option_map (λ t. t.now) l.part));
  size : l.n + size_left (option_map (λ t. t.now) l.rest) ≤ size_left (option_map (λ t. t.now) l.part);
}

abbrev pub decreases-loop-rest : goal.decreases-loop-rest
decreases-loop-rest l = size_left (option_map (λ t. t.now) l.rest)
