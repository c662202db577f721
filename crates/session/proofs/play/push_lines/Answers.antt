use Rattle.session.proofs.Played.{one_more_played}
use Rattle.session.proofs.play.push_lines.Goals as goal

pub loop-number-preserved : goal.loop-number-preserved
loop-number-preserved g c =
    let at = c.loop-number in
    let told = c.push_line.new in
    one_more_played c.args.session.now at.session c.chosen.new.session told.session at.number
    c.as_bytes-bytes.result.now at.out.items told.out.items at.invariant c.in_ok-line.ensures.looks c.in_ok-push_line-in-Some.ensures
