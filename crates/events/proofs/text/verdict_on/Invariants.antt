use Rattle.events.proofs.Verdicts.{HasBegun}
use Rattle.events.proofs.text.verdict_on.Given as goal

-- n lines were read, and of their events the first ones are taken in turn
abbrev pub invariant-loop-number : goal.invariant-loop-number
invariant-loop-number g l =
    HasBegun l.issue (g.L.Read.remaining l.fn.log) (g.L.Read.remaining l.log) l.number l.fn.judge.unit l.held.judge.unit l.held.waiting.items
