use Rattle.std.proofs.Common.{arith}
use Rattle.std.proofs.lemmas.Grind.{common_steps}
use Rattle.std.proofs.Common.{length, refl, sym, subst}
use Rattle.streaming.specs.Flow.{HasPlace}
use Rattle.streaming.proofs.FlowOut.{has_place}
use Rattle.streaming.proofs.FlowStays.{no_room}
use Rattle.streaming.proofs.rounds.round.Goals as goal

pub depart-left-requires-clause-some : goal.depart-left-requires-clause-some
depart-left-requires-clause-some g c = grind (arith, common_steps, no_room)

pub enter_after-requires : goal.enter_after-requires
enter_after-requires g c =
    subst (λ n. HasPlace c.depart-left.new.unit c.depart-left.new.flow n c.station-station.result) (sym c.len-from.ensures.value)
    (subst (HasPlace c.depart-left.new.unit c.depart-left.new.flow (length c.depart-left.new.flow.ring.completed)) (sym c.station-station.ensures)
    (has_place c.loop-unit.unit c.depart-left.new.unit c.loop-unit.flow c.depart-left.new.flow c.depart-left.result c.depart-left.ensures.departed c.loop-unit.invariant.full
    (c.if-not-can_enter.ensures refl)))
