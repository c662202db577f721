use Rattle.std.specs.Prelude.{◌≡◌}
use Rattle.hints.specs.Hinted.{IsEndOf}
use Rattle.pool.specs.Dispatching.{OffersLets}
use Rattle.workers.specs.Deeds.{CountsFrontDeeds}
use Rattle.workers.specs.Turns.{TurnsAreTaken}
use Rattle.pool.proofs.dispatch.take_turns.Given as goal

abbrev pub invariant-loop-backoff : goal.invariant-loop-backoff
invariant-loop-backoff g l =
    (l.front.core ≡ l.shared.core.now) × (l.count.seat.of ≡ l.shared.state.now.counts)
    × IsEndOf l.shared.state.now.hints l.hinter
    × OffersLets l.initial.front.seen l.front.seen l.initial.hinter l.hinter
    × CountsFrontDeeds l.initial.front.seen l.front.seen l.initial.count l.count × TurnsAreTaken l.initial.turns l.turns

abbrev pub decreases-loop-backoff : goal.decreases-loop-backoff
decreases-loop-backoff g l = l.turns.left
