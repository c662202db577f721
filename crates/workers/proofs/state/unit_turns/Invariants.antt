use Rattle.std.specs.Prelude.{◌≡◌, length}
use Rattle.workers.proofs.state.unit_turns.Given as goal

abbrev pub invariant-loop : goal.invariant-loop
invariant-loop l = length l.all.items ≡ l.counter
