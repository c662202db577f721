use Rattle.std.proofs.Common.{◌*◌, [], take, string_bytes}
use Rattle.disassembly.specs.Writing.{IsText, marked}
use Rattle.disassembly.proofs.writing.text_of.Given as goal

abbrev pub invariant-instructions : goal.invariant-instructions
invariant-instructions l =
    IsText (string_bytes l.out) (take l.k l.code) (marked l.marks.items l.k) [] (200 * l.k)
