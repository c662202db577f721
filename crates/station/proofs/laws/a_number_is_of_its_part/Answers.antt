use Rattle.std.proofs.Common.{subst}
use Rattle.ruu_words.specs.Views.{IsCaller}
use Rattle.station.specs.Seats.{Caller}
use Rattle.station.proofs.laws.a_number_is_of_its_part.Goals as goal

pub returns : goal.returns
returns g c = subst (λ (v : Caller). IsCaller g.P.Part.role v.by) c.seat.view_is c.seat.invariant.1.caller
