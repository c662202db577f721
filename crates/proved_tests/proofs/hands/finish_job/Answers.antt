use Rattle.std.proofs.Common.{◌<◌, length, sym, subst}
use Rattle.instructions.specs.Programs.{Program}
use Rattle.inorder.specs.History.{IsLegal}
use Rattle.station.specs.Seats.{TheCore}
use Rattle.proved_tests.proofs.hands.finish_job.Goals as goal

pub outcome-outcome-requires : goal.outcome-outcome-requires
outcome-outcome-requires c =
    let core = c.args.core.now in
    let seat = c.args.seat.now in
    let legal = subst (λ (d : TheCore). IsLegal d.program d.sizes seat.seen) c.requires.core c.what_is_seen_is_legal.ensures in
    subst (λ (P : Program). c.args.job.index < length P.code) (sym c.requires.program)
    (c.a_job_is_of_the_program.ensures core.program core.sizes seat.by seat.seen c.args.job legal c.requires.job)
