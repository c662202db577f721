use Rattle.session.specs.Rows.{IsHeadSeen}
use Rattle.session.proofs.Looks.{at_core, looks_on}
use Rattle.session.proofs.session.Session.ends.Goals as goal

pub returns-clause-stays : goal.returns-clause-stays
returns-clause-stays g c =
    looks_on c.args.self.now c.read_path-ahead.new.self c.head-head.new.self c.read_path-ahead.ensures.stays c.head-head.ensures.stays

pub returns-clause-reply : goal.returns-clause-reply
returns-clause-reply g c =
    let one = c.read_path-ahead.new.self in
    let ahead = c.read_path-ahead.result in
    record {
      middle = one.seen;
      ahead_is = c.read_path-ahead.ensures.reply;
      head_is = at_core c.args.self.now one c.read_path-ahead.ensures.stays (λ core. IsHeadSeen core one.seen c.head-head.new.self.seen ahead.station c.head-head.result) c.head-head.ensures.reply;
    }
