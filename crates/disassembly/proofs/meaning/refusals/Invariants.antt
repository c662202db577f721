use Rattle.std.proofs.Common.{◌≡◌}
use Rattle.disassembly.specs.Meaning.{refusals_up_to}
use Rattle.disassembly.proofs.meaning.refusals.Given as goal

abbrev pub invariant-words : goal.invariant-words
invariant-words l = l.all.items ≡ refusals_up_to l.code l.k
