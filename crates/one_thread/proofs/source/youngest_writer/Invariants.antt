use Rattle.std.proofs.Common.{◌≡◌, ◌≤◌, ℕ, Option, length, take}
use Rattle.one_thread.specs.Window.{register_in}
use Rattle.one_thread.proofs.source.youngest_writer.Given as goal

abbrev pub invariant-loop-at : goal.invariant-loop-at
invariant-loop-at l = record {
  inside : l.at ≤ length l.fn.tenants;
  same : (v : Option ℕ) → register_in l.fn.r v l.fn.tenants ≡ register_in l.fn.r v (take l.at l.fn.tenants);
}

abbrev pub decreases-loop-at : goal.decreases-loop-at
decreases-loop-at l = l.at
