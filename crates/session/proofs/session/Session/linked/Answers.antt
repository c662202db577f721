use Rattle.session.specs.Accounts.{IsProducerSeen}
use Rattle.session.proofs.Looks.{at_core, looks_on}
use Rattle.session.proofs.session.Session.linked.Goals as goal

pub returns-clause-stays : goal.returns-clause-stays
returns-clause-stays g c =
    looks_on c.args.self.now c.read_operand-seen.new.self c.producer.new.self c.read_operand-seen.ensures.stays c.producer.ensures.stays

pub returns-clause-reply : goal.returns-clause-reply
returns-clause-reply g c =
    let old = c.args.self.now in
    let one = c.read_operand-seen.new.self in
    let seen = c.read_operand-seen.result in
    record {
      middle = one.seen;
      seen = seen;
      operand = c.read_operand-seen.ensures.reply;
      from_is = at_core old one c.read_operand-seen.ensures.stays (λ core. IsProducerSeen core one.seen c.producer.new.self.seen c.args.station seen.tag c.args.k c.producer.result) c.producer.ensures.reply;
    }
