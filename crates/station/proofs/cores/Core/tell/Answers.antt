use Rattle.std.proofs.Common.{◌≡◌, ℕ, List, [], sym, ap, ◌∙◌, subst, rules}
use Rattle.atomic_table.specs.Table.{Me}
use Rattle.inorder.specs.declared.history.Entry.{Entry}
use Rattle.inorder.specs.OneHistory.{Adds}
use Rattle.ruu_words.specs.declared.rule.View.{View}
use Rattle.ruu_words.specs.declared.place.Place.TheVariants.{Station}
use Rattle.ruu_words.specs.Openings.{opening_of, sizes_of}
use Rattle.ruu_words.proofs.ViewJoins.{joins}
use Rattle.ruu_words.proofs.ViewCuts.{splits_note}
use Rattle.station.specs.Seats.{IsSeated}
use Rattle.station.specs.Steps.{Sees}
use Rattle.station.proofs.Adding.{adds_these}
use Rattle.station.proofs.Calls.{look_back, saw_at}
use Rattle.station.proofs.SameUnit.{not_empty}
use Rattle.station.proofs.Seated.{informed_seated, is_alive}
use Rattle.station.proofs.cores.Core.tell.Goals as goal

pub split_seat-note-requires : goal.split_seat-note-requires
split_seat-note-requires g c =
    let key = c.self.inside.table.shared.key in
    let s = c.from.inside.seat in
    let value = c.from.inside.words.value.key in
    let alive = is_alive value.program (sizes_of value) g.P.Part.role s.me.0.by c.from.inside.station c.from.inside.over s.me c.from.invariant.0 in (
      search rules,
      not_empty c.self.inside.ring c.self.inside.table.shared.table_id.words c.self.invariant.wide c.self.invariant.least,
      splits_note key.program (sizes_of key) (opening_of key) s.id s.me.0 alive,
    )

pub join_seat-requires : goal.join_seat-requires
join_seat-requires g c =
    let key = c.self.inside.table.shared.key in
    let note = c.split_seat-note.result in (
      search rules,
      search rules,
      search rules,
      not_empty c.self.inside.ring c.self.inside.table.shared.table_id.words c.self.invariant.wide c.self.invariant.least,
      joins key.program (sizes_of key) (opening_of key) c.to.inside.seat.id c.to.inside.seat.me.0 note.id note.me.0 (ap (λ m. m.0.role) c.split_seat-note.ensures.4),
    )

pub invariant_of-to : goal.invariant_of-to
invariant_of-to g c =
    let s = c.to.inside.seat in
    let mid = c.join_seat.new.seat.me in
    let value = c.to.inside.words.value.key in
    let told = informed_seated value.program (sizes_of value) g.Q.Part.role s.me.0.by c.to.inside.station c.to.inside.over s.me c.split_seat-note.result.me.0 c.to.invariant.0 in
    let heard : IsSeated value.program (sizes_of value) g.Q.Part.role mid.0.by c.to.inside.station c.to.inside.over mid = subst
    (λ (m : Me ℕ View). IsSeated value.program (sizes_of value) g.Q.Part.role m.0.by c.to.inside.station c.to.inside.over m) (sym c.join_seat.ensures.2) told in
    look_back _ value _ _ _ c.args.to.now c.args.self.now c.to.view_is c.requires.to g.Q.Part.role c.of-call.ensures c.call.invariant c.call.view_is (Station 0) c.look.result c.look.ensures
    (search rules)
    c.to.inside.station c.to.inside.over heard

pub returns-clause-looked : goal.returns-clause-looked
returns-clause-looked g c =
    let core = c.args.self.now in
    let mid = c.join_seat.new.seat.me.0 in
    let t = c.call.inside.seat.now.me.0 in
    let saw = saw_at core c.of-call.ensures c.call.view_is (Station 0) c.look.result c.look.ensures in
    let adds = adds_these core.program core.sizes mid.by mid t (Sees core.program core.sizes mid.by mid (Station 0) c.look.result) [] saw saw.kind.none in
    let by : mid.by ≡ c.args.to.now.by = ap (λ m. m.0.by) c.join_seat.ensures.2 ∙ ap (λ z. z.by) c.to.view_is in
    let seen : mid.seen ≡ c.args.to.now.seen = ap (λ m. m.0.seen) c.join_seat.ensures.2 ∙ ap (λ z. z.seen) c.to.view_is in
    record {
      same = search rules;
      spare = search rules;
      woken = search rules;
      adds = subst (λ (h : List Entry). Adds core.program core.sizes c.args.to.now.by c.args.to.now.seen h []) (search rules)
          (subst (λ (z : ℕ × List Entry). Adds core.program core.sizes z.0 z.1 t.seen []) (λ i. (by i, seen i)) adds);
    }
