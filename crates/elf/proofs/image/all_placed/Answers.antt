use Rattle.std.proofs.Common.{sym, ap, ◌∙◌, arith}
use Rattle.std.proofs.lemmas.Result.{err_from_is_err_and}
use Rattle.elf.specs.Placing.{placed as placed_with}
use Rattle.elf.proofs.Steps.{refused_by_one}
use Rattle.elf.proofs.image.all_placed.Goals as goal

pub returns-in_err-image-2-clause-fault : goal.returns-in_err-image-2-clause-fault
returns-in_err-image-2-clause-fault c =
    let p = err_from_is_err_and c.from_residual-in_err-image-2.result c.from_residual-in_err-image-2.ensures.1 in
    rw (p.1, p.2) (λ apart.
    refused_by_one c.args.file.now c.args.table.at c.args.table.count c.segments.k c.segments.image _ (omega arith) c.segments.invariant
    (ap (λ s. placed_with c.args.file.now s c.segments.image) (sym c.at-segment.ensures) ∙ c.in_err-image-2.ensures.fault apart))
