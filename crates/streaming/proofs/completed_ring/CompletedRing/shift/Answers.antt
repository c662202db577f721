use Rattle.std.proofs.lemmas.Grind.{common_steps}
use Rattle.std.proofs.Common.{arith, length-take-le}
use Rattle.streaming.proofs.Slots.{ring_length, ring_shift}
use Rattle.streaming.proofs.completed_ring.CompletedRing.shift.Goals as goal

pub returns : goal.returns
returns c = grind (arith, common_steps, length-take-le, ring_length, ring_shift)
