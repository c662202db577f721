use Rattle.std.proofs.Common.{◌≡◌, take}
use Rattle.one_thread.proofs.fetch.decode_all.Given as goal

abbrev pub invariant-loop-i : goal.invariant-loop-i
invariant-loop-i l = l.code.items ≡ take l.i l.program.code
