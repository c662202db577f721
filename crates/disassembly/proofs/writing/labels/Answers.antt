use Rattle.std.proofs.Common.{◌∙◌, length}
use Rattle.disassembly.proofs.Marks.{marks_more}
use Rattle.disassembly.proofs.writing.labels.Goals as goal

pub instructions-preserved : goal.instructions-preserved
instructions-preserved c =
    let kept = c.mark.ensures.kept in
    let new = c.mark.ensures.new in
    let all = c.instructions.invariant.0 in
    let it = c.instr-item in (
      c.mark.ensures.length ∙ all,
      marks_more c.instructions.marks.items c.mark.new.marks.items (length c.args.code.now) c.instructions.instr-index c.args.code.now it.result c.instructions-test.true c.instructions.invariant.1
          kept (rw (← it.is) (rw all at new)),
    )
