use Rattle.std.proofs.Common.{rules}
use Rattle.station.proofs.Calls.{front_kept}
use Rattle.station.proofs.cores.Core.mend.Goals as goal

pub invariant_of-seat : goal.invariant_of-seat
invariant_of-seat c =
    let done = c.mend_miss.ensures in
    front_kept _ c.seat.inside.words.value.key _ _ _ c.args.seat.now c.args.self.now c.seat.view_is c.requires.core c.of-call.ensures done.same c.call.invariant c.call.view_is (search rules)
    c.seat.inside.station c.seat.inside.over c.seat.invariant.0 done.draft done.next
