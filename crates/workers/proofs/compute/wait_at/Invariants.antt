use Rattle.std.specs.Prelude.{◌≡◌, false}
use Rattle.workers.specs.Turns.{TurnsAreTaken}
use Rattle.workers.proofs.compute.wait_at.Given as goal

-- no turn is taken before it is held
abbrev pub invariant-questions : goal.invariant-questions
invariant-questions g l =
    TurnsAreTaken l.initial.turns l.turns × (l.was_held ≡ false → l.turns.left ≡ l.initial.turns.left)

abbrev pub decreases-questions : goal.decreases-questions
decreases-questions g l = l.turns.left
