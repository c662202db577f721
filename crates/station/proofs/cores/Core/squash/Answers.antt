use Rattle.std.proofs.Common.{sym, rules}
use Rattle.station.proofs.Calls.{front_back}
use Rattle.station.proofs.cores.Core.squash.Goals as goal

pub invariant_of-seat : goal.invariant_of-seat
invariant_of-seat c =
    let squashed = c.squash_youngest-squashed.ensures in
    let done = squashed.squashed in
    front_back _ c.seat.inside.words.value.key _ _ _ c.args.seat.now c.args.self.now c.seat.view_is c.requires.core c.of-call.ensures done.same c.call.invariant c.call.view_is (search rules)
    c.squash_youngest-squashed.result.0 c.seat.inside.over squashed.inside done.draft (sym done.next)
