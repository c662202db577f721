use Rattle.std.proofs.Common.{◌≡◌, length, take}
use Rattle.disassembly.specs.Writing.{AllMarked}
use Rattle.disassembly.proofs.writing.labels.Given as goal

abbrev pub invariant-instructions : goal.invariant-instructions
invariant-instructions l =
    (length l.marks.items ≡ length l.code) × AllMarked l.marks.items (length l.code) (take l.instr-index l.code)
