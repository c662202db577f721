use Rattle.std.proofs.Common.{sym, ap}
use Rattle.front.specs.Fronts.{TheFront}
use Rattle.front.proofs.GoingOn.{pc_ahead}
use Rattle.front.proofs.dispatcher.Front.next_pc.Goals as goal

pub returns : goal.returns
returns g c =
    let f = c.self.inside in
    pc_ahead f.program.now f.seat f.path f.creators.counted f.rested c.args.self.now c.self.invariant (sym (ap (λ (v : TheFront g.row.P.Denot). v.core) c.self.view_is))
    (sym (ap (λ (v : TheFront g.row.P.Denot). v.seen) c.self.view_is)) c.front_pc.result c.front_pc.ensures
