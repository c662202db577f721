use Rattle.std.proofs.Common.{subst}
use Rattle.inorder.specs.History.{IsLegal}
use Rattle.station.specs.Seats.{Caller}
use Rattle.station.proofs.laws.what_is_seen_is_legal.Goals as goal

pub returns : goal.returns
returns g c = subst (λ (v : Caller). IsLegal v.core.program v.core.sizes v.seen) c.seat.view_is c.seat.invariant.0.legal
