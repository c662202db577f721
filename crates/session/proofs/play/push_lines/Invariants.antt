use Rattle.session.specs.Plays.{IsPlayOf}
use Rattle.session.proofs.play.push_lines.Given as goal

-- n commands were chosen and answered
abbrev pub invariant-loop-number : goal.invariant-loop-number
invariant-loop-number g l = IsPlayOf l.fn.session l.number l.out.items l.session
