use Rattle.std.proofs.Common.{◌-◌, ◌+◌, length}
use Rattle.one_thread.specs.Notes.{AreSettled}
use Rattle.one_thread.proofs.window.Window.resolve.Given as goal

abbrev pub invariant-loop-resolved : goal.invariant-loop-resolved
invariant-loop-resolved l = AreSettled l.resolved l.fn.self

abbrev pub decreases-loop-resolved : goal.decreases-loop-resolved
decreases-loop-resolved l = length l.fn.self + 1 - l.resolved
