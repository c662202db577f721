use Rattle.std.proofs.Common.{rules}
use Rattle.session.specs.Rows.{IsRowSeen}
use Rattle.session.proofs.Looks.{at_both, looks_on}
use Rattle.session.proofs.session.Session.oldest.Goals as goal

pub returns-in-Some-clause-stays : goal.returns-in-Some-clause-stays
returns-in-Some-clause-stays g c =
    looks_on c.args.self.now c.ends.new.self c.row.new.self c.ends.ensures.stays c.row.ensures.stays

pub returns-in-Some-clause-reply : goal.returns-in-Some-clause-reply
returns-in-Some-clause-reply g c =
    let one = c.ends.new.self in
    record {
      middle = one.seen;
      head = c.ends.result.0;
      ahead = c.ends.result.1;
      ring = c.ends.ensures.reply;
      row = (search rules, at_both c.args.self.now one c.ends.ensures.stays (λ core units. IsRowSeen core one.seen c.row.new.self.seen units c.in-Some.station c.row.result) c.row.ensures.reply);
    }
