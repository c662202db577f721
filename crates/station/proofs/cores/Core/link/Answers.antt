use Rattle.std.proofs.Common.{◌≤◌, subst}
use Rattle.station.specs.Seats.{TheCore}
use Rattle.station.proofs.Reading.{sees_link}
use Rattle.station.proofs.cores.Core.link.Goals as goal

pub returns-clause-reply : goal.returns-clause-reply
returns-clause-reply c =
    let core = c.args.self.now in
    let first = subst (λ (z : TheCore). 1 ≤ z.sizes.first_tag) c.self.view_is c.self.invariant.from_one in
    sees_link core.program core.sizes c.read-word.new.seat.seen c.read-word.ensures.looked.adds.legal first c.args.producer c.args.consumer c.read-word.result c.args.k c.unpack.result
    c.unpack.ensures.none c.unpack.ensures.producer c.unpack.ensures.consumer c.read-word.ensures.reply
