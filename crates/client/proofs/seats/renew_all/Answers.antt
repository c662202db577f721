use Rattle.std.proofs.Common.{◌≡◌, List, [], sym, ap, ◌∙◌, subst, arith}
use Rattle.inorder.specs.declared.history.Entry.{Entry}
use Rattle.inorder.specs.History.{IsUnit}
use Rattle.instructions.specs.Histories.{StartsWith}
use Rattle.ruu_words.specs.Views.{half, other_half}
use Rattle.station.specs.Making.{first_unit, other_units}
use Rattle.station.specs.Renewals.{seats_of}
use Rattle.station.specs.Seats.{Caller}
use Rattle.client.specs.declared.seats.Seats.{Seats}
use Rattle.client.proofs.Made.{no_third}
use Rattle.client.proofs.seats.renew_all.Goals as goal

from : {h o : List Entry} → h ≡ o → StartsWith h o
from e = record { more = []; is = e }

pub returns-in-Ok : goal.returns-in-Ok
returns-in-Ok c =
    let r = c.in-Ok.ensures.ok in
    let now = c.in-Ok.renewed in
    let m = r.first in
    let s = c.split-one.ensures in
    let seats : Seats = record { front = c.in-Ok.front; back = c.in-Ok.back; one = c.split-one.result.0; other = c.split-one.result.1 } in
    let one_by : seats.one.by ≡ first_unit = ap (λ (v : Caller). v.by) (s.first) ∙ ap (λ (v : Caller). v.by) m.unit_is in
    let one_spare : seats.one.spare ≡ half other_units = ap (λ (v : Caller). v.spare) s.first ∙ ap (λ (v : Caller). half v.spare) m.unit_is in
    let other_by : seats.other.by ≡ other_units.first = s.number ∙ ap (λ (v : Caller). v.spare.first) m.unit_is in
    let other_spare : seats.other.spare ≡ other_half other_units = s.spare ∙ ap (λ (v : Caller). other_half v.spare) m.unit_is in
    let unit : IsUnit first_unit = omega arith in
    let next : IsUnit other_units.first = omega arith in
    let front_seen : seats.front.seen ≡ now.opening = ap (λ (v : Caller). v.seen) m.front_is in
    let one_seen : seats.one.seen ≡ now.opening = ap (λ (v : Caller). v.seen) s.first ∙ ap (λ (v : Caller). v.seen) m.unit_is in
    let other_seen : seats.other.seen ≡ now.opening = s.history ∙ ap (λ (v : Caller). v.seen) m.unit_is in
    record {
      program = r.program;
      sizes = r.sizes;
      all = record {
        front_opened = from front_seen;
        one_opened = from one_seen;
        front_core = ap (λ (v : Caller). v.core) m.front_is;
        back_core = ap (λ (v : Caller). v.core) m.back_is;
        one_core = ap (λ (v : Caller). v.core) s.first ∙ ap (λ (v : Caller). v.core) m.unit_is;
        other_core = s.core;
        front_by = ap (λ (v : Caller). v.by) m.front_is;
        back_by = ap (λ (v : Caller). v.by) m.back_is;
        one_by = subst IsUnit (sym one_by) unit;
        other_by = subst IsUnit (sym other_by) next;
        two = s.other;
        no_third = no_third c.numbers_are_given_once.ensures.all c.numbers_are_given_once.ensures.split seats one_by one_spare other_by other_spare;
      };
      knows = record { one = from (front_seen ∙ sym one_seen); other = from (front_seen ∙ sym other_seen) };
      path = c.a_renewal_goes_on.ensures c.args.core now (seats_of c.args.seats.front c.args.seats.back c.args.seats.one) (seats_of c.in-Ok.front c.in-Ok.back c.in-Ok.unit) r;
    }
