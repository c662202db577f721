use Rattle.pool.specs.Terms.{MayBegin}
use Rattle.workers.specs.Turns.{TurnsAreTaken}
use Rattle.pool.proofs.terms.run_terms.Given as goal

-- the dispatch thread has no more turns than it began with
abbrev pub invariant-loop : goal.invariant-loop
invariant-loop g l =
    MayBegin l.state.counts g.K.Bounds.config l.committer l.term
    × TurnsAreTaken l.fn.first.owned.dispatcher.turns l.term.owned.dispatcher.turns
