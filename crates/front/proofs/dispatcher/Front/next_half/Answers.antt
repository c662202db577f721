use Rattle.std.proofs.Common.{sym, ap}
use Rattle.front.specs.Fronts.{TheFront}
use Rattle.front.proofs.GoingOn.{half_ahead}
use Rattle.front.proofs.dispatcher.Front.next_half.Goals as goal

pub returns : goal.returns
returns g c =
    let f = c.self.inside in
    half_ahead f.program.now f.seat f.path f.creators.counted f.rested c.args.self.now c.self.invariant (sym (ap (λ (v : TheFront g.row.P.Denot). v.core) c.self.view_is))
    (sym (ap (λ (v : TheFront g.row.P.Denot). v.seen) c.self.view_is)) c.front_half.result c.front_half.ensures
