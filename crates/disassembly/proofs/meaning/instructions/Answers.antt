use Rattle.std.proofs.Common.{sym, ap, ◌∙◌, arith}
use Rattle.std.proofs.lemmas.Grind.{common_steps}
use Rattle.std.proofs.lemmas.Result.{err_from_is_err_and}
use Rattle.disassembly.specs.Meaning.{appended}
use Rattle.disassembly.proofs.Steps.{meant_next, refused_by_one}
use Rattle.disassembly.proofs.meaning.instructions.Goals as goal

pub returns-in_err-instr-clause-fault : goal.returns-in_err-instr-clause-fault
returns-in_err-instr-clause-fault c =
    let left = c.from_residual-in_err-instr in
    let p = err_from_is_err_and left.result left.ensures.1 in
    rw (p.1, p.2) (λ apart. refused_by_one c.args.code.now c.words.k c.words.found.items _ (omega arith)
    c.words.invariant.0 (sym c.meant.ensures ∙ c.in_err-instr.was))

pub words-preserved : goal.words-preserved
words-preserved c =
    let next = meant_next c.args.code.now c.words.k c.words.found.items c.words.invariant.0
    ∙ ap (appended c.words.found.items) (sym c.meant.ensures ∙ c.in_ok-instr.was) in
    (grind (arith, common_steps, next), grind (arith, common_steps))
