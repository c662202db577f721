use Rattle.std.proofs.Common.{◌≡◌, ◌<◌, ℕ, None}
use Rattle.one_thread.specs.Producers.{gives}
use Rattle.one_thread.specs.Notes.{miss_in}
use Rattle.one_thread.proofs.window.Window.oldest_miss.Given as goal

abbrev pub invariant-loop-at : goal.invariant-loop-at
invariant-loop-at l = (k : ℕ) → k < l.at → gives miss_in l.fn.self k ≡ None
