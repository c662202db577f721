use Rattle.std.proofs.Common.{List, [], ap, subst, rules}
use Rattle.inorder.specs.declared.history.Entry.{Entry}
use Rattle.inorder.specs.OneHistory.{Adds}
use Rattle.ruu_words.specs.Views.{IsCaller}
use Rattle.station.specs.Seats.{Caller}
use Rattle.station.specs.Steps.{Sees}
use Rattle.station.proofs.Adding.{adds_these}
use Rattle.station.proofs.Calls.{look_back, saw_at}
use Rattle.station.proofs.cores.Core.read.Goals as goal

pub invariant_of-seat : goal.invariant_of-seat
invariant_of-seat g c =
    look_back _ c.seat.inside.words.value.key _ _ _ c.args.seat.now c.args.self.now c.seat.view_is c.requires.core g.P.Part.role c.of-call.ensures c.call.invariant c.call.view_is c.args.place
    c.look-word.result c.look-word.ensures (search rules)
    c.seat.inside.station c.seat.inside.over c.seat.invariant.0

pub returns-clause-looked : goal.returns-clause-looked
returns-clause-looked g c =
    let core = c.args.self.now in
    let s = c.seat.inside.seat.me.0 in
    let t = c.call.inside.seat.now.me.0 in
    let saw = saw_at core c.of-call.ensures c.call.view_is c.args.place c.look-word.result c.look-word.ensures in
    let adds = adds_these core.program core.sizes s.by s t (Sees core.program core.sizes s.by s c.args.place c.look-word.result) [] saw saw.kind.none in
    record {
      same = search rules;
      spare = search rules;
      woken = search rules;
      adds = subst (λ (h : List Entry). Adds core.program core.sizes c.args.seat.now.by c.args.seat.now.seen h []) (search rules)
          (subst (λ (z : Caller). Adds core.program core.sizes z.by z.seen t.seen []) c.seat.view_is adds);
    }

pub returns-clause-caller : goal.returns-clause-caller
returns-clause-caller g c = subst (IsCaller g.P.Part.role) (ap (λ (x : Caller). x.by) c.seat.view_is) c.seat.invariant.1.caller
