use Rattle.std.proofs.Common.{◌+◌, ◌%◌, ◌∙◌, ap}
use Rattle.session.specs.Replies.{IsLook}
use Rattle.session.specs.Sessions.{TheSession}
use Rattle.session.proofs.Looks.{at_core, looks_on}
use Rattle.session.proofs.WordsRead.{few_after, one_more_look}
use Rattle.session.proofs.session.Session.head.Goals as goal

pub loop-at-preserved : goal.loop-at-preserved
loop-at-preserved g c =
    let old = c.args.self.now in
    let at = c.loop-at in
    let so_far = at.invariant in
    let one = c.read_station-seen in
    let new = one.new.self in
    let ring = c.ring-ring.result in
    let station = (c.args.tail + at.at) % ring in
    record {
      looks = looks_on old at.self new so_far.looks one.ensures.stays;
      looked = one_more_look old.core old.seen at.self.seen new.seen c.args.tail at.at ring at.head c.head_with-head.result one.result c.is_free.result
          so_far.looks.grows.begins one.ensures.stays.grows.begins (c.ring-ring.ensures.value ∙ ap (λ (s : TheSession). s.core.sizes.ring) c.self.view_is) so_far.looked
          (at_core old at.self so_far.looks (λ core. IsLook core at.self.seen new.seen station one.result) one.ensures.reply) c.is_free.ensures c.head_with-head.ensures;
      few = few_after at.head c.head_with-head.result station at.at c.is_free.result c.head_with-head.ensures so_far.few;
    }
