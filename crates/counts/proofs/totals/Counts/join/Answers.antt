use Rattle.std.proofs.Common.{rules, sym, subst, arith}
use Rattle.counts.specs.Seats.{HasParts}
use Rattle.counts.proofs.Cuts.{joined_parts, merges_known}
use Rattle.counts.proofs.totals.Counts.join.Goals as goal

pub join_seat-requires : goal.join_seat-requires
join_seat-requires c = (search rules, search rules, c.other.invariant.slots, (let w = c.self.invariant in omega arith), merges_known _ _ _ _)

pub invariant_of-seat : goal.invariant_of-seat
invariant_of-seat c =
    subst HasParts (sym c.join_seat.ensures.2) (record { some = joined_parts c.seat.inside.seat.me.0.shares c.other.inside.seat.me.0.shares c.seat.invariant.some; slots = c.seat.invariant.slots })
