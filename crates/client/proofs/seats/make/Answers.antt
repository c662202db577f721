use Rattle.std.proofs.Common.{◌≡◌, List, [], sym, ap, ◌∙◌, subst, arith}
use Rattle.inorder.specs.declared.history.Entry.{Entry}
use Rattle.inorder.specs.History.{IsUnit, own}
use Rattle.instructions.specs.Histories.{StartsWith}
use Rattle.ruu_words.specs.declared.rule.SpareNumbers.{SpareNumbers}
use Rattle.ruu_words.specs.Views.{half, other_half}
use Rattle.station.specs.Making.{first_unit, other_units}
use Rattle.station.specs.Seats.{Caller}
use Rattle.client.specs.declared.seats.Seats.{Seats}
use Rattle.client.proofs.Made.{no_third}
use Rattle.client.proofs.seats.make.Goals as goal

opened : {h o : List Entry} → h ≡ [] → o ≡ [] → StartsWith h o
opened e f = record { more = []; is = e ∙ sym f }

pub returns : goal.returns
returns c =
    let m = c.in_ok-core.ensures in
    let s = c.split-one.ensures in
    let seats : Seats = record { front = c.in_ok-core.front; back = c.in_ok-core.back; one = c.split-one.result.0; other = c.split-one.result.1 } in
    let one_by : seats.one.by ≡ first_unit = ap (λ (v : Caller). v.by) s.first ∙ m.unit_by in
    let one_spare : seats.one.spare ≡ half other_units = ap (λ (v : Caller). v.spare) s.first ∙ ap half m.unit_spare in
    let other_by : seats.other.by ≡ other_units.first = s.number ∙ ap (λ (h : SpareNumbers). h.first) m.unit_spare in
    let other_spare : seats.other.spare ≡ other_half other_units = s.spare ∙ ap other_half m.unit_spare in
    let unit : IsUnit first_unit = omega arith in
    let next : IsUnit other_units.first = omega arith in
    record {
      program = m.program;
      sizes = m.sizes;
      all = record {
        front_opened = opened m.front_is.seen m.opening;
        one_opened = opened (ap (λ (v : Caller). v.seen) s.first ∙ m.unit_is.seen) m.opening;
        front_core = m.front_is.core_is;
        back_core = m.back_is.core_is;
        one_core = ap (λ (v : Caller). v.core) s.first ∙ m.unit_is.core_is;
        other_core = s.core;
        front_by = m.front_by;
        back_by = m.back_by;
        one_by = subst IsUnit (sym one_by) unit;
        other_by = subst IsUnit (sym other_by) next;
        two = s.other;
        no_third = no_third c.numbers_are_given_once.ensures.all c.numbers_are_given_once.ensures.split seats one_by one_spare other_by other_spare;
      };
      front_seen = m.front_is.seen;
      back_seen = m.back_is.seen;
      one_seen = ap (λ (v : Caller). v.seen) s.first ∙ m.unit_is.seen;
      other_seen = s.history ∙ m.unit_is.seen;
      fresh = s.fresh ∙ ap (own seats.other.by) m.opening;
    }
