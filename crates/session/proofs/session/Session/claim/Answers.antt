use Rattle.session.proofs.Answered.{claim_replied}
use Rattle.session.proofs.session.Session.claim.Goals as goal

pub returns : goal.returns
returns g c =
    let one = c.issue-answer in
    let two = c.awaited-from in
    claim_replied c.args.self.now one.new.self two.new.self c.args.unit c.args.station one.result two.result one.ensures.stays one.ensures.reply two.ensures.stays two.ensures.reply
