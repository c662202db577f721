use Rattle.session.proofs.Answered.{turn_replied}
use Rattle.session.proofs.session.Session.turn.Goals as goal

pub returns : goal.returns
returns g c =
    let one = c.dispatch-turn in
    let two = c.info_of_let-info in
    turn_replied c.args.self.now one.new.self two.new.self c.args.given one.result two.result one.ensures.stays one.ensures.reply two.ensures.stays two.ensures.reply
