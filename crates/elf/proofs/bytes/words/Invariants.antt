use Rattle.std.proofs.Common.{◌≡◌}
use Rattle.elf.specs.Bytes.{words as words_of}
use Rattle.elf.proofs.bytes.words.Given as goal

abbrev pub invariant-loop-k : goal.invariant-loop-k
invariant-loop-k l = l.found.items ≡ words_of l.file l.at l.k
