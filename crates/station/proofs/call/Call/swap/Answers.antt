use Rattle.std.proofs.Common.{◌<◌, sym, ap, ◌∙◌, subst}
use mathlib.Core.Option.{none}
use Rattle.atomic_table.specs.Table.{step}
use Rattle.station.specs.Seats.{TheCore}
use Rattle.station.proofs.Calls.{at_place, goes_on, may, takes}
use Rattle.station.proofs.call.Call.swap.Goals as goal

pub index-at-requires-clause-place : goal.index-at-requires-clause-place
index-at-requires-clause-place g c =
    let shared = c.core.inside.table.shared in
    let s = c.self.inside.seat.now in
    at_place shared.table_id shared.key c.self.inside.core.now c.core.view_is s.me c.self.inside.seat.ghost_name c.args.self.now c.self.view_is g.P.Part.role s.table_id c.args.place
    (λ _. c.args.new) g.K.Telling.kind c.core.inside.ring c.core.invariant.ring_is c.self.invariant c.requires

pub swap-requires : goal.swap-requires
swap-requires g c =
    let shared = c.core.inside.table.shared in
    let s = c.self.inside.seat.now in (
      c.self.invariant.at ∙ sym (ap (λ (z : TheCore). z.id) c.core.view_is),
      subst (λ n. c.index-at.result < n) (sym c.core.invariant.wide) c.index-at.ensures.inside,
      may shared.table_id shared.key c.self.inside.core.now c.core.view_is s.me c.self.inside.seat.ghost_name c.args.self.now c.self.view_is g.P.Part.role s.table_id shared.table_id.slots s.id
          c.args.place c.index-at.result (λ _. c.args.new) (λ n. n) g.K.Telling.kind
          (step shared.table_id.slots c.index-at.result c.args.new 0 none) c.core.inside.ring c.core.invariant.ring_is c.index-at.ensures.value c.self.invariant c.requires,
    )

pub invariant_of-self : goal.invariant_of-self
invariant_of-self g c =
    let shared = c.core.inside.table.shared in
    let s = c.self.inside.seat.now in
    let told = c.swap.ensures.2 in
    goes_on shared.table_id shared.key c.self.inside.core.now c.core.view_is s.me c.self.inside.seat.ghost_name c.args.self.now c.self.view_is g.P.Part.role s.table_id c.swap.new.seat.table_id
    c.swap.new.seat.me (g.K.Telling.kind c.swap.result) c.self.invariant c.swap.ensures.0 told.grows told.unborn told.slots

pub returns : goal.returns
returns g c =
    let shared = c.core.inside.table.shared in
    let s = c.self.inside.seat.now in
    takes shared.table_id shared.key c.self.inside.core.now c.core.view_is s.me c.self.inside.seat.ghost_name c.args.self.now c.self.view_is c.swap.new.seat.me.0 (g.K.Telling.kind c.swap.result)
    c.swap.ensures.2.grows
