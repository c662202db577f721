use Rattle.std.proofs.Common.{◌∙◌, arith}
use Rattle.ruu_words.proofs.Stays.{tag_small}
use Rattle.station.proofs.Calls.{legal_at, role_at}
use Rattle.station.proofs.Places.{inside}
use Rattle.station.proofs.SettleSteps.{has_made, is_settled, is_stale, may_exchange}
use Rattle.station.proofs.writeback.Call+BackPart.settle_load.Goals as goal

pub look-seen-requires : goal.look-seen-requires
look-seen-requires c = inside c.args.self.now (legal_at c.self.invariant c.self.view_is) c.requires.can.named

pub address_word-old-requires : goal.address_word-old-requires
address_word-old-requires c =
    let v = c.args.self.now in
    let can = c.requires.can in
    let small = tag_small v.core.program v.core.sizes v.view.seen (legal_at c.self.invariant c.self.view_is) can.p c.args.station c.args.tag can.named in
    omega arith

pub settle_tenant-found-requires-clause-load : goal.settle_tenant-found-requires-clause-load
settle_tenant-found-requires-clause-load c =
    let old = c.address_word-old in
    let new = c.done_word-new in
    may_exchange c.args.station c.args.tag c.args.value c.look-seen.result (role_at c.self.invariant c.self.view_is) c.requires c.look-seen.ensures
    old.result new.result old.ensures.tag (old.ensures.value ∙ c.unpack-address.ensures.value) new.ensures.value

pub returns-then-found-old : goal.returns-then-found-old
returns-then-found-old c =
    is_stale c.args.station c.args.tag c.args.value c.look-seen.result (role_at c.self.invariant c.self.view_is) c.requires c.look-seen.ensures
    c.address_word-old.result c.settle_tenant-found.result c.address_word-old.ensures.tag c.settle_tenant-found.ensures c.if-found-old.true

pub walk-woken-requires-clause-made : goal.walk-woken-requires-clause-made
walk-woken-requires-clause-made c =
    has_made c.args.station c.args.tag c.args.value c.look-seen.result (role_at c.self.invariant c.self.view_is) c.requires c.look-seen.ensures
    c.address_word-old.result c.settle_tenant-found.result c.address_word-old.ensures.tag c.settle_tenant-found.ensures c.if-found-old.false

pub returns : goal.returns
returns c =
    is_settled c.args.station c.args.tag c.args.value c.look-seen.result (role_at c.self.invariant c.self.view_is) c.requires c.look-seen.ensures
    c.address_word-old.result c.settle_tenant-found.result c.address_word-old.ensures.tag c.settle_tenant-found.ensures c.if-found-old.false c.walk-woken.result c.walk-woken.ensures
