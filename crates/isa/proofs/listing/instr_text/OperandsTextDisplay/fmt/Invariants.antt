use Rattle.std.proofs.Common.{take, map}
use Rattle.std.specs.Fmt.{HasWritten, IsPlainFormatter}
use Rattle.isa.specs.InstrText.{operand_text, separated_text}
use Rattle.isa.proofs.listing.instr_text.OperandsTextDisplay.fmt.Given as goal

-- the operands so far are written
abbrev pub invariant-loop-at : goal.invariant-loop-at
invariant-loop-at g l =
    IsPlainFormatter l.fn.f
    → HasWritten g.W.Write.write_str_gives l.fn.f
    (separated_text 0 (map (λ s. operand_text l.self.text.naming s l.self.text.instr) (take l.at l.self.slots.now))) l.f
