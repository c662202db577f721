use Rattle.std.proofs.Common.{rules}
use Rattle.instructions.proofs.Histories.{starts_same}
use Rattle.session.specs.Replies.{IsLinkSeen}
use Rattle.session.proofs.Looks.{at_core, looks_on}
use Rattle.session.proofs.WordsRead.{later_link, one_more_none}
use Rattle.session.proofs.session.Session.producer.Goals as goal

pub returns-in-Some-clause-stays : goal.returns-in-Some-clause-stays
returns-in-Some-clause-stays g c =
    let at = c.loop-at in
    looks_on c.args.self.now at.self c.read_link-seen.new.self at.invariant.looks c.read_link-seen.ensures.stays

pub returns-in-Some-clause-reply : goal.returns-in-Some-clause-reply
returns-in-Some-clause-reply g c =
    let old = c.args.self.now in
    let at = c.loop-at in
    let looks = at.invariant.looks in
    let seen = c.read_link-seen.result in
    let new = c.read_link-seen.new.self.seen in
    record {
      at = at.at;
      seen = seen;
      is = later_link old.core old.seen at.self.seen new new looks.grows.begins (starts_same new) at.at c.args.station c.args.k seen
          (at_core old at.self looks (λ core. IsLinkSeen core at.self.seen new at.at c.args.station c.args.k seen) c.read_link-seen.ensures.reply);
      names = search rules;
    }

pub loop-at-preserved : goal.loop-at-preserved
loop-at-preserved g c =
    let old = c.args.self.now in
    let at = c.loop-at in
    let so_far = at.invariant in
    let one = c.read_link-seen in
    let new = one.new.self in
    record {
      looks = looks_on old at.self new so_far.looks one.ensures.stays;
      none = one_more_none old.core old.seen at.self.seen new.seen c.args.station c.args.tag at.at c.args.k one.result so_far.looks.grows.begins one.ensures.stays.grows.begins so_far.none
          (at_core old at.self so_far.looks (λ core. IsLinkSeen core at.self.seen new.seen at.at c.args.station c.args.k one.result) one.ensures.reply) (search rules);
    }
