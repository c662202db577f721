use Rattle.std.proofs.lemmas.Grind.{common_steps}
use Rattle.std.proofs.Common.{arith, length-take-le}
use Rattle.std.proofs.lemmas.Option.{slice_get-get_or}
use Rattle.circular_buffer.proofs.Places.{slice_get-take}
use Rattle.streaming.proofs.Slots.{ring_get, ring_length, slot_small}
use Rattle.streaming.proofs.completed_ring.CompletedRing.get.Goals as goal

pub returns : goal.returns
returns c = grind (arith, common_steps, length-take-le, ring_length, slot_small, ring_get, slice_get-take, slice_get-get_or)
