use Rattle.workers.specs.Deeds.{HasFinishedAll}
use Rattle.workers.specs.Turns.{TurnsAreTaken}
use Rattle.workers.specs.Units.{HasCountedDeeds, Works}
use Rattle.workers.proofs.compute.take_turns.Given as goal

abbrev pub invariant-turns : goal.invariant-turns
invariant-turns g l =
    Works l.shared.core.now l.shared.state.now.counts l.shared.state.now.hints l.unit
    × HasCountedDeeds l.initial.unit l.unit
    × HasFinishedAll l.initial.unit.seat.by l.initial.unit.seat.seen l.unit.seat.seen
    × TurnsAreTaken l.initial.turns l.turns

abbrev pub decreases-turns : goal.decreases-turns
decreases-turns g l = l.turns.left
