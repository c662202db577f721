use Rattle.std.proofs.Common.{◌≡◌, ◌≤◌, ◌+◌, ◌*◌, IfSome, length}
use Rattle.elf.specs.Symbols.{symbols_up_to}
use Rattle.elf.proofs.symbol.symbols_in.Given as goal

abbrev pub invariant-sections : goal.invariant-sections
invariant-sections l = (l.found ≡ symbols_up_to l.file l.at l.count l.k)
    × IfSome l.found (λ s. s.at + 16 * s.count ≤ length l.file)
