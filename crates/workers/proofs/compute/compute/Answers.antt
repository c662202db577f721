use Rattle.std.proofs.Common.{◌<◌, length, subst, sym}
use Rattle.instructions.specs.Programs.{Program}
use Rattle.workers.proofs.Deeds.{finish_done}
use Rattle.workers.proofs.compute.compute.Goals as goal

pub outcome-result-requires : goal.outcome-result-requires
outcome-result-requires c =
    let core = c.args.core.now in
    let seat = c.args.seat.now in
    subst (λ (P : Program). c.args.job.index < length P.code) (sym c.program.ensures)
    (c.a_job_is_of_the_program.ensures core.program core.sizes seat.by seat.seen c.args.job c.requires.legal c.requires.job)

pub returns-clause-done : goal.returns-clause-done
returns-clause-done c = finish_done _ _ _ _ _ c.args.job _ c.finish.ensures.reply
