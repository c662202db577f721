use Rattle.std.proofs.lemmas.Grind.{common_steps}
use Rattle.std.proofs.Common.{arith, length-take-le}
use Rattle.streaming.proofs.Slots.{ring_length, ring_push, take_set}
use Rattle.streaming.proofs.completed_ring.CompletedRing.push.Goals as goal

pub returns : goal.returns
returns c = grind (arith, common_steps, length-take-le, ring_length, take_set, ring_push)
