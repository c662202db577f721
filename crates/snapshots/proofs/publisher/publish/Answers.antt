use Rattle.std.proofs.Common.{◌≤◌}
use Rattle.snapshots.specs.declared.snap.Snap.{Snap}
use Rattle.snapshots.proofs.Steps.{publishes}
use Rattle.snapshots.proofs.publisher.publish.Goals as goal

pub publish_as-requires : goal.publish_as-requires
publish_as-requires g c next is =
    let snap : Snap = c.args.job.1 in
    let published : Snap = c.append.new.self.desk.shown.value in
    let later : published.n ≤ snap.n = rw (c.append.ensures.desk) c.requires.later in
    publishes _ _ _ _ next snap _ _ c.requires.empty c.in-Ok.ensures.pending is c.requires.snap later
