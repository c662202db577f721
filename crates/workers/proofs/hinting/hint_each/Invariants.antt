use Rattle.hints.specs.Hinted.{IsEndOf}
use Rattle.workers.specs.Hinting.{HasHinted}
use Rattle.workers.proofs.hinting.hint_each.Given as goal

abbrev pub invariant-loop-station : goal.invariant-loop-station
invariant-loop-station g l =
    IsEndOf l.hints l.hinter × HasHinted l.stations l.station l.initial.hinter l.hinter
