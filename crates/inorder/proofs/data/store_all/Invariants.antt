use Rattle.std.proofs.Common.{◌≡◌, ◌+◌, ◌-◌}
use Rattle.inorder.specs.Machine.{store_bytes}
use Rattle.inorder.proofs.data.store_all.Given as goal

-- what is still to be written onto what was written is all
abbrev pub invariant-loop-k : goal.invariant-loop-k
invariant-loop-k l = store_bytes l.memory (l.at + l.k) (l.width - l.k) l.rest ≡ store_bytes l.fn.memory l.at l.width l.value
