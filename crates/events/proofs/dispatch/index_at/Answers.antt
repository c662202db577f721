use Rattle.std.proofs.Common.{arith}
use Rattle.events.proofs.Denials.{no_instruction}
use Rattle.events.proofs.dispatch.index_at.Goals as goal
use Rattle.events.proofs.dispatch.index_at.Goals.{else-index-len-via-then-index-len+else-index-pc, else-index-len-via-else-index-len}

pub returns-else-index-len-clause-none : goal.returns-else-index-len-clause-none
returns-else-index-len-clause-none c =
    no_instruction c.args.program.now c.args.pc
    (λ k inside is. elim c.else-index-len.branch [
      | else-index-len-via-then-index-len+else-index-pc w ↦ omega arith
      | else-index-len-via-else-index-len w ↦ omega arith
    ])
