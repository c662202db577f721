use Rattle.inorder.specs.declared.history.Source.TheVariants.{First, Second}
use Rattle.instructions.proofs.Histories.{starts_same}
use Rattle.session.specs.Accounts.{IsOperandTold}
use Rattle.session.specs.Rows.{IsHolder}
use Rattle.session.proofs.Looks.{at_both, at_core, looks_on}
use Rattle.session.proofs.WordsRead.{later_look, later_told}
use Rattle.session.proofs.session.Session.row.Goals as goal

pub returns-clause-stays : goal.returns-clause-stays
returns-clause-stays g c =
    let old = c.args.self.now in
    let one = c.read_station-seen.new.self in
    let two = c.whole_operand-first.new.self in
    looks_on old two c.whole_operand-second.new.self (looks_on old one two c.read_station-seen.ensures.stays c.whole_operand-first.ensures.stays) c.whole_operand-second.ensures.stays

pub returns-clause-reply : goal.returns-clause-reply
returns-clause-reply g c =
    let old = c.args.self.now in
    let one = c.read_station-seen.new.self in
    let two = c.whole_operand-first.new.self in
    let new = c.whole_operand-second.new.self in
    let first = c.read_station-seen.ensures.stays in
    let second = c.whole_operand-first.ensures.stays in
    let third = c.whole_operand-second.ensures.stays in
    let until = looks_on old one two first second in
    let rest = looks_on one two new second third in
    let seen = c.read_station-seen.result in
    record {
      seen = later_look old.core old.seen old.seen one.seen new.seen (starts_same old.seen) rest.grows.begins c.args.station seen c.read_station-seen.ensures.reply;
      unit = at_both old one first (λ core units. IsHolder units c.args.station seen.tag c.holder-unit.result) c.holder-unit.ensures;
      first = later_told old.core old.seen one.seen two.seen new.seen first.grows.begins third.grows.begins c.args.station First c.whole_operand-first.result
          (at_core old one first (λ core. IsOperandTold core one.seen two.seen c.args.station First c.whole_operand-first.result) c.whole_operand-first.ensures.reply);
      second = later_told old.core old.seen two.seen new.seen new.seen until.grows.begins (starts_same new.seen) c.args.station Second c.whole_operand-second.result
          (at_core old two until (λ core. IsOperandTold core two.seen new.seen c.args.station Second c.whole_operand-second.result) c.whole_operand-second.ensures.reply);
    }
