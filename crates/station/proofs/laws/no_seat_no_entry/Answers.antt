use Rattle.std.proofs.Common.{◌≡◌, ℕ, subst}
use Rattle.inorder.specs.History.{own}
use Rattle.ruu_words.specs.Views.{IsSpare}
use Rattle.station.specs.Seats.{Caller}
use Rattle.station.proofs.laws.no_seat_no_entry.Goals as goal

pub returns : goal.returns
returns c = subst (λ (v : Caller). (n : ℕ) → IsSpare v.spare n → own n v.seen ≡ own n v.core.opening) c.seat.view_is c.seat.invariant.1.spare.unborn
