use Rattle.std.proofs.Common.{◌≡◌}
use Rattle.one_thread.specs.Window.{accesses}
use Rattle.one_thread.proofs.window.Window.accesses.Given as goal

abbrev pub invariant-loop-i : goal.invariant-loop-i
invariant-loop-i l = l.accesses ≡ accesses l.fn.self l.i
