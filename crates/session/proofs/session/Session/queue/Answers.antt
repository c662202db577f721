use Rattle.session.proofs.Looks.{looks_on}
use Rattle.session.proofs.session.Session.queue.Goals as goal

pub loop-at-preserved : goal.loop-at-preserved
loop-at-preserved g c =
    let at = c.loop-at in
    looks_on c.args.self.now at.self c.push_access.new.self at.invariant c.in_ok-push_access.ensures
