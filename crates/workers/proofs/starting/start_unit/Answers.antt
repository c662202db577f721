use Rattle.std.proofs.Common.{rules}
use denote.Param.{param}
use denote.Param.Send.{IsSend}
use denote.Ref.{NamedLft}
use Rattle.workers.specs.contracts.unit.Worker as worker
use Rattle.workers.proofs.Sends.{shared_sends, worker_sends}
use Rattle.workers.proofs.starting.start_unit.Goals as goal

-- what each capture owes: what the term shares and the worker
pub spawn-requires-send-F : goal.spawn-requires-send-F
spawn-requires-send-F g c κs within =
    let at : NamedLft = record { mir = mir.Syntax.named 5; lft = κs.1.1.1.1.1.0 } in
    let of : NamedLft = record { mir = mir.Syntax.named 6; lft = κs.1.1.1.1.1.1.0 } in
    let f = shared_sends at of (param 1 g.row.K) (param 2 g.row.G) (param 3 g.row.R) g.K.Bounds g.K.Ring c.type_bounds.sync-G c.type_bounds.sync-R in
    let w : IsSend worker.the_row = worker_sends in
    record { owned = λ z vs. (λ vss. (tt, (f.owned z.0 vss.0, (w.owned z.1 vss.1.0, tt)))); leaving = λ k x e. search rules depth 10 }

-- and what comes back
pub spawn-requires-send-T : goal.spawn-requires-send-T
spawn-requires-send-T g c κs within = record { owned = λ x vs. worker_sends.owned x vs; leaving = λ k x e. search rules depth 10 }
