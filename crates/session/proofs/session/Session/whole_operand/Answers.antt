use Rattle.instructions.proofs.Histories.{starts_same}
use Rattle.session.specs.Accounts.{IsOfOperand}
use Rattle.session.specs.Replies.{IsOperandSeen}
use Rattle.session.proofs.Looks.{at_core, looks_on}
use Rattle.session.proofs.WordsRead.{later_awaited, later_info, later_operand}
use Rattle.session.proofs.session.Session.whole_operand.Goals as goal

pub returns-clause-stays : goal.returns-clause-stays
returns-clause-stays g c =
    let old = c.args.self.now in
    let one = c.read_info-info.new.self in
    let two = c.read_operand-seen.new.self in
    looks_on old two c.producer_of-from.new.self (looks_on old one two c.read_info-info.ensures.stays c.read_operand-seen.ensures.stays) c.producer_of-from.ensures.stays

pub returns-clause-reply : goal.returns-clause-reply
returns-clause-reply g c =
    let old = c.args.self.now in
    let one = c.read_info-info.new.self in
    let two = c.read_operand-seen.new.self in
    let new = c.producer_of-from.new.self in
    let first = c.read_info-info.ensures.stays in
    let second = c.read_operand-seen.ensures.stays in
    let third = c.producer_of-from.ensures.stays in
    let until = looks_on old one two first second in
    let rest = looks_on one two new second third in
    let seen = c.read_operand-seen.result in
    record {
      info = later_info old.core old.seen old.seen one.seen new.seen (starts_same old.seen) rest.grows.begins c.args.station c.read_info-info.result c.read_info-info.ensures.reply;
      seen = later_operand old.core old.seen one.seen two.seen new.seen first.grows.begins third.grows.begins c.args.station c.args.k seen
          (at_core old one first (λ core. IsOperandSeen core one.seen two.seen c.args.station c.args.k seen) c.read_operand-seen.ensures.reply);
      from = later_awaited old.core old.seen two.seen new.seen new.seen until.grows.begins (starts_same new.seen) c.args.station seen.tag c.args.k seen.state c.producer_of-from.result
          (at_core old two until (λ core. IsOfOperand core two.seen new.seen c.args.station seen.tag c.args.k seen.state c.producer_of-from.result) c.producer_of-from.ensures.reply);
    }
