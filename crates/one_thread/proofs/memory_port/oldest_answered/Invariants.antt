use Rattle.std.proofs.Common.{◌≡◌, ◌<◌, ℕ, None}
use Rattle.one_thread.specs.Producers.{gives}
use Rattle.one_thread.specs.Loads.{load_in}
use Rattle.one_thread.proofs.memory_port.oldest_answered.Given as goal

abbrev pub invariant-loop-at : goal.invariant-loop-at
invariant-loop-at l =
    (k : ℕ) → k < l.at → gives (load_in l.ahead.registers l.ahead.memory) l.window k ≡ None
