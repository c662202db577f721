use Rattle.std.proofs.Common.{◌∙◌, drop, sym}
use Rattle.isa.proofs.SpotSearch.{none_left}
use Rattle.isa.proofs.listing.spot.spot_in_operands.Goals as goal

pub returns-in_default : goal.returns-in_default
returns-in_default c = sym (none_left c.loop-n.n (drop c.loop-n.n c.args.slots.now)) ∙ (rw c.in_default.is at c.loop-n.invariant)
