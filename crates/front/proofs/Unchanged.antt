-- A renewal leaves the values of registers.
use Rattle.std.proofs.Common.{◌≡◌, ℕ, Option, Some, sym, ap, ◌∙◌}
use Rattle.inorder.specs.Unit.{creator, value_of}
use Rattle.station.proofs.Paths.{renewals_go_on}
use Rattle.station.specs.Seats.{unit_seen}
use Rattle.front.specs.Behind.{RegistersStay}

one_value : {o : Option ℕ} {v w : ℕ} → o ≡ Some v → o ≡ Some w → w ≡ v
one_value p q = let both = sym q ∙ p in cc both

pub registers_stay : RegistersStay
registers_stay core now old new told again r v w renewed before behind =
    let path = renewals_go_on core now old new renewed in
    let U = unit_seen core old.front in
    let V = unit_seen now new.front in
    let stays : value_of V.tenants (creator now.program V.tenants r) ≡ Some v =
    ap (value_of V.tenants) (path.creators r) ∙ path.values (creator core.program U.tenants r) v before.value in
    one_value stays behind.value
