use Rattle.std.proofs.Common.{◌≤◌, [], string_bytes}
use Rattle.session.specs.Turns.{HasTried}
use Rattle.session.proofs.turns.turns.Given as goal

-- n turns were taken
abbrev pub invariant-loop-taken : goal.invariant-loop-taken
invariant-loop-taken g l = record {
  tried : HasTried l.number l.fn.session l.session [] (string_bytes l.out);
  few : l.retired ≤ l.taken;
}
