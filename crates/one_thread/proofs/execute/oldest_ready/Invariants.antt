use Rattle.std.proofs.Common.{◌≡◌, ◌<◌, ℕ, None}
use Rattle.one_thread.specs.Producers.{gives}
use Rattle.one_thread.specs.Window.{operands_in}
use Rattle.one_thread.proofs.execute.oldest_ready.Given as goal

abbrev pub invariant-loop-at : goal.invariant-loop-at
invariant-loop-at l = (k : ℕ) → k < l.at → gives (operands_in l.ahead.registers) l.window k ≡ None
