use Rattle.std.proofs.Common.{◌≡◌, drop}
use Rattle.std.specs.Option.{option_map}
use Rattle.lexical.specs.Operand.{operands_left}
use Rattle.isa.specs.Spots.{operands_spot}
use Rattle.isa.proofs.listing.spot.spot_in_operands.Given as goal

abbrev pub invariant-loop-n : goal.invariant-loop-n
invariant-loop-n l =
    operands_spot l.n (drop l.n l.slots) (operands_left (option_map (λ t. t.now) l.rest))
    ≡ operands_spot 0 l.slots (operands_left (option_map (λ t. t.now) l.part))
