use Rattle.std.proofs.Common.{◌≡◌, Ok, length}
use Rattle.disassembly.specs.Meaning.{meant_up_to}
use Rattle.disassembly.proofs.meaning.instructions.Given as goal

abbrev pub invariant-words : goal.invariant-words
invariant-words l = (meant_up_to l.code l.k ≡ Ok l.found.items) × (length l.found.items ≡ l.k)
