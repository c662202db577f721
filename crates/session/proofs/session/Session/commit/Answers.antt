use Rattle.session.proofs.Answered.{commit_replied}
use Rattle.session.proofs.session.Session.commit.Goals as goal

pub returns : goal.returns
returns g c =
    let one = c.oldest-oldest in
    let two = c.retire-answer in
    commit_replied c.args.self.now one.new.self two.new.self two.result one.result one.ensures.stays one.ensures.reply two.ensures.stays two.ensures.shown two.ensures.reply
