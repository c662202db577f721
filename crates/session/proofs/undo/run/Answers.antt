use Rattle.std.proofs.Common.{◌<◌, length, arith}
use Rattle.std.proofs.lemmas.Grind.{common_steps}
use Rattle.session.proofs.Undone.{one_more_run}
use Rattle.session.proofs.undo.run.Goals as goal

pub loop-at-preserved : goal.loop-at-preserved
loop-at-preserved g c =
    let at = c.loop-at in
    let within : at.at < length c.args.lines.now = grind (arith, common_steps, c.loop-at-test.true, at.auto.at-end) in
    one_more_run c.args.lines.now at.at _ at.session c.told.new.session c.args.session.now _ within at.invariant c.in_ok-told.ensures
