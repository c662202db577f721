use Rattle.std.proofs.Common.{◌≡◌}
use Rattle.elf.specs.Symbols.{functions_up_to}
use Rattle.elf.proofs.symbol.functions_of.Given as goal

abbrev pub invariant-symbols : goal.invariant-symbols
invariant-symbols l = l.functions.items ≡ functions_up_to l.file l.symbols.names l.symbols.at l.k
