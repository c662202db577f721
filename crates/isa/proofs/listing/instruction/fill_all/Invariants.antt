use Rattle.std.proofs.Common.{◌≡◌, drop}
use Rattle.std.specs.Option.{option_map}
use Rattle.lexical.specs.Operand.{operands_left}
use Rattle.isa.specs.Statement.{draft_view, filled}
use Rattle.isa.proofs.listing.instruction.fill_all.Given as goal

abbrev pub invariant-loop-slot : goal.invariant-loop-slot
invariant-loop-slot l =
    filled (drop l.slot-index l.slots) (operands_left (option_map (λ t. t.now) l.rest)) (draft_view l.draft)
    ≡ filled l.slots (operands_left (option_map (λ t. t.now) l.part)) (draft_view l.fn.draft)
