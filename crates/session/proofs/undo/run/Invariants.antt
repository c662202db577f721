use Rattle.std.proofs.Common.{drop}
use Rattle.session.proofs.Undone.{LeadsOn}
use Rattle.session.proofs.undo.run.Given as goal

-- what the other lines do is what all of them do
abbrev pub invariant-loop-at : goal.invariant-loop-at
invariant-loop-at g l = LeadsOn (drop l.at l.lines) l.lines l.session l.fn.session
