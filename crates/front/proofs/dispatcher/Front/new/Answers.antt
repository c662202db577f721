use Rattle.std.proofs.Common.{◌∙◌, sym, ap, subst, length}
use Rattle.inorder.specs.History.{unit_of}
use Rattle.station.specs.Seats.{Caller}
use Rattle.front.specs.Path.{rested_at}
use Rattle.front.specs.declared.path.base_state.Base.{Base}
use Rattle.front.proofs.Fronts.{IsFirstBase, new_adds, new_front, nobody}
use Rattle.front.proofs.dispatcher.Front.new.Goals as goal

pub invariant_of-result : goal.invariant_of-result
invariant_of-result g c =
    let v = c.args.seat in
    let first : IsFirstBase v.core.program v.core.sizes v.seen c.new-base.result = record {
      registers = c.new-base.ensures.registers;
      pc = c.new-base.ensures.pc;
      half = c.new-base.ensures.half;
      station = c.new-base.ensures.station;
      told = ap (λ (z : Caller). length (unit_of z.core.program z.core.sizes z.seen).tenants) c.new-base.ensures.rested;
    } in
    new_front c.args.core.now c.args.program.now v c.new.result c.new-2.result.counted c.requires.seat c.requires.program c.what_is_seen_is_legal.ensures c.new.ensures.records
    (subst (λ (b : Base). IsFirstBase v.core.program v.core.sizes v.seen b) (sym c.new.ensures.base) first)
    c.new-2.ensures.entries c.new-2.ensures.latest

pub returns-clause-history : goal.returns-clause-history
returns-clause-history g c = new_adds c.args.core.now c.args.seat c.requires.seat.core_is c.what_is_seen_is_legal.ensures

pub returns-clause-trained_upto : goal.returns-clause-trained_upto
returns-clause-trained_upto g c =
    let v = c.args.seat in
    ap rested_at c.new.ensures.base
    ∙ (ap (λ (z : Caller). length (unit_of z.core.program z.core.sizes z.seen).tenants) c.new-base.ensures.rested
    ∙ ap (λ z. length z) (nobody v.core.program v.core.sizes v.seen c.what_is_seen_is_legal.ensures c.requires.seat.none))
