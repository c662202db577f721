use Rattle.std.specs.Prelude.{◌≡◌}
use Rattle.hints.specs.Hinted.{IsEndOf}
use Rattle.committing.proofs.commit.Committer.take_turns.Given as goal

abbrev pub invariant-loop-backoff : goal.invariant-loop-backoff
invariant-loop-backoff g l =
    (l.self.back.core ≡ l.shared.core.now) × IsEndOf l.shared.state.now.hints l.hinter

abbrev pub decreases-loop-backoff : goal.decreases-loop-backoff
decreases-loop-backoff g l = l.self.turns.left
