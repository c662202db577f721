use Rattle.std.proofs.Common.{◌≡◌, drop}
use Rattle.commit_log.specs.Hashes.{hash_start, mixed_words}
use Rattle.commit_log.proofs.hash.of_registers.Given as goal

-- the hash so far and the registers to come have the hash of all
abbrev pub invariant-registers : goal.invariant-registers
invariant-registers l = mixed_words l.hash (drop l.value-index l.registers) ≡ mixed_words hash_start l.registers
