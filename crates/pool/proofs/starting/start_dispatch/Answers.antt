use Rattle.std.proofs.Common.{rules}
use denote.Param.{param}
use denote.Param.Send.{IsSend}
use denote.Ref.{NamedLft}
use Rattle.pool.specs.contracts.dispatch.Dispatcher as dispatcher
use Rattle.pool.proofs.Sends.{dispatcher_sends, given_back_sends}
use Rattle.workers.proofs.Sends.{shared_sends}
use Rattle.pool.proofs.starting.start_dispatch.Goals as goal

-- what each capture owes: what the term shares and the dispatcher
pub spawn_with-requires-send-F : goal.spawn_with-requires-send-F
spawn_with-requires-send-F g c κs within =
    let at : NamedLft = record { mir = mir.Syntax.named 6; lft = κs.1.1.1.1.1.1.0 } in
    let of : NamedLft = record { mir = mir.Syntax.named 7; lft = κs.1.1.1.1.1.1.1.0 } in
    let f = shared_sends at of (param 1 g.row.K) (param 3 g.row.G) (param 4 g.row.R) g.K.Bounds g.K.Ring c.type_bounds.sync-G c.type_bounds.sync-R in
    let d : IsSend (dispatcher.the_row (param 2 g.row.P) g.P.Predictor) = dispatcher_sends (param 2 g.row.P) g.P.Predictor c.type_bounds.send-P in
    record { owned = λ z vs. (λ vss. (tt, (f.owned z.0 vss.0, (d.owned z.1 vss.1.0, tt)))); leaving = λ k x e. search rules depth 10 }

-- and what comes back
pub spawn_with-requires-send-T : goal.spawn_with-requires-send-T
spawn_with-requires-send-T g c κs within =
    let r = given_back_sends (param 2 g.row.P) g.P.Predictor c.type_bounds.send-P in
    record { owned = λ x vs. r.owned x vs; leaving = λ k x e. search rules depth 10 }
