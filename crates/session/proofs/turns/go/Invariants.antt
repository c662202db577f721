use Rattle.std.proofs.Common.{string_bytes}
use Rattle.session.specs.Turns.{HasTried}
use Rattle.session.proofs.turns.go.Given as goal

-- n commands were tried
abbrev pub invariant-loop-at : goal.invariant-loop-at
invariant-loop-at g l = HasTried l.number l.fn.session l.session (string_bytes l.fn.out) (string_bytes l.out)
