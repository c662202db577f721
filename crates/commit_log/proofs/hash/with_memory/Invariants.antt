use Rattle.std.proofs.Common.{◌≡◌, length}
use Rattle.commit_log.specs.Hashes.{mixed_bytes}
use Rattle.commit_log.proofs.hash.with_memory.Given as goal

-- the hash so far and the bytes to come have the hash of all
abbrev pub invariant-words : goal.invariant-words
invariant-words l = mixed_bytes l.hash l.rest ≡ mixed_bytes l.fn.hash l.memory

abbrev pub decreases-words : goal.decreases-words
decreases-words l = length l.rest
