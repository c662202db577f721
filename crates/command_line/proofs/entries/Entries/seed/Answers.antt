use Rattle.std.proofs.lemmas.Result.{err_from_is_err_and}
use Rattle.clap.specs.Words.{first_of}
use Rattle.command_line.specs.Values.{rows_in}
use Rattle.command_line.proofs.SeedTexts.{of_no_number}
use Rattle.command_line.proofs.entries.Entries.seed.Goals as goal

pub returns-in_err-seed-clause-err : goal.returns-in_err-seed-clause-err
returns-in_err-seed-clause-err c =
    let p = err_from_is_err_and c.from_residual.result c.from_residual.ensures.1 in
    rw p.1 (of_no_number c.text.result (first_of c.args.name.now (rows_in c.args.self.now)) c.text.ensures c.if-is_none.ensures
    c.in_err-seed.ensures.err)
