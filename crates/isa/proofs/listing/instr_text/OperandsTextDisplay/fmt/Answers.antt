use Rattle.std.proofs.Common.{rules, arith}
use Rattle.std.proofs.Output.{has_written_append, has_written_of_eq}
use Rattle.isa.proofs.TextWritten.{operand_written}
use Rattle.isa.proofs.listing.instr_text.OperandsTextDisplay.fmt.Goals as goal

pub loop-at-preserved : goal.loop-at-preserved
loop-at-preserved g c = λ plain.
    has_written_of_eq _ _ _ _ _
    (operand_written c.args.self.now.slots.now _ c.loop-at.at _ c.separator-separator.result.now (omega arith) c.separator-separator.ensures)
    (has_written_append _ _ _ _ _ _ (c.loop-at.invariant plain) (c.write.ensures.writes (search rules) (search rules)))
