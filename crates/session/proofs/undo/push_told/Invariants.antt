use Rattle.session.specs.Texts.{HasAddedText}
use Rattle.session.specs.Undoing.{ComesTo}
use Rattle.session.proofs.undo.push_told.Given as goal

-- the line was done as often as counted
abbrev pub invariant-loop : goal.invariant-loop
invariant-loop g l = HasAddedText (ComesTo l.counter l.fn.session l.session l.number l.line) l.fn.out.items l.out.items
