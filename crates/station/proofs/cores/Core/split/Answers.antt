use Rattle.std.proofs.Common.{◌≡◌, sym, ap, ◌∙◌, subst, rules}
use Rattle.inorder.specs.History.{own}
use Rattle.ruu_words.specs.declared.rule.Role.TheVariants.{Worker}
use Rattle.ruu_words.specs.declared.rule.Setup.{Setup}
use Rattle.ruu_words.specs.Openings.{opening_of, sizes_of}
use Rattle.ruu_words.proofs.ViewCuts.{splits_unit}
use Rattle.station.specs.Seats.{Caller, IsNumbered, TheCore}
use Rattle.station.proofs.Numbers.{born_now, left_numbered, right_numbered}
use Rattle.station.proofs.SameUnit.{not_empty, same_opening}
use Rattle.station.proofs.cores.Core.split.Goals as goal

pub split_seat-other-requires : goal.split_seat-other-requires
split_seat-other-requires c =
    let key = c.self.inside.table.shared.key in
    let s = c.seat.inside.seat in (
      search rules,
      not_empty c.self.inside.ring c.self.inside.table.shared.table_id.words c.self.invariant.wide c.self.invariant.least,
      splits_unit key.program (sizes_of key) (opening_of key) s.id s.me.0 c.seat.invariant.0.role_is c.seat.invariant.1.spare.some,
    )

pub invariant_of-seat : goal.invariant_of-seat
invariant_of-seat c = (
  search rules,
  left_numbered (opening_of c.seat.inside.words.value.key) c.seat.inside.seat.me.0 c.split_seat-other.new.seat.me.0 (ap (λ m. m.0) c.split_seat-other.ensures.2)
      c.seat.invariant.1,
)

pub invariant_of-other_seat : goal.invariant_of-other_seat
invariant_of-other_seat c =
    let key = c.self.inside.table.shared.key in
    let v = c.seat.inside.seat.me.0 in
    let opening = same_opening _ _ c.seat.inside.words.value.key key _ _ _ c.args.seat c.args.self.now c.seat.view_is c.requires.core c.self.view_is in
    let numbered = right_numbered (opening_of key) v c.split_seat-other.result.me.0 (ap (λ m. m.0) c.split_seat-other.ensures.4) (subst (λ o. IsNumbered o Worker v) opening c.seat.invariant.1) in
    (search rules, subst (λ (z : Setup). IsNumbered (opening_of z) Worker c.split_seat-other.result.me.0) (sym (ap (λ z. z.key) c.of.ensures)) numbered)

pub returns-clause-fresh : goal.returns-clause-fresh
returns-clause-fresh c =
    let value = c.seat.inside.words.value.key in
    let opening = ap (λ (z : Caller). z.core.opening) c.seat.view_is ∙ ap (λ (z : TheCore). z.opening) c.requires.core in
    let none = subst (λ m. own m.0.by m.0.seen ≡ own m.0.by (opening_of value)) (sym c.split_seat-other.ensures.4) (born_now (opening_of value) c.seat.inside.seat.me.0 c.seat.invariant.1) in
    subst (λ o. own c.split_seat-other.result.me.0.by c.split_seat-other.result.me.0.seen ≡ own c.split_seat-other.result.me.0.by o) opening none
