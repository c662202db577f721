use Rattle.std.proofs.Common.{◌≡◌, ap, ◌∙◌, arith}
use Rattle.inorder.specs.Tenants.{made_at_let}
use Rattle.streaming.specs.Flow.{window_of}
use Rattle.streaming.specs.CompletedRing.{station_in}
use Rattle.streaming.specs.Reopened.{as_let}
use Rattle.one_thread.specs.declared.station.Stage.TheVariants.{Open}
use Rattle.streaming.proofs.Completions.{stations_get}
use Rattle.streaming.proofs.FlowStays.{put_back}
use Rattle.streaming.proofs.streaming.station_at_exit.Goals as goal

pub returns-then-i-from : goal.returns-then-i-from
returns-then-i-from c =
    let P = c.args.unit.now.program.now in
    let flow = c.args.flow.now in
    put_back c.args.from c.args.i (window_of c.args.unit.now flow) (station_in P c.get.result) c.station_of-station.result (stations_get P flow.ring.completed c.args.i c.get.result c.get.ensures)
    (λ l. c.station_of-station.ensures) (λ l. absurd (omega (arith, l, c.if-i-from.true)))

pub returns : goal.returns
returns c =
    let P = c.args.unit.now.program.now in
    let flow = c.args.flow.now in
    let w = c.station_of-station.result in
    let made : c.made_at_let.result ≡ made_at_let (Rattle.instructions.specs.Instruction.kind w.instr.op) w.pc = c.made_at_let.ensures ∙ ap (λ k. made_at_let k w.pc) c.kind.ensures in
    put_back c.args.from c.args.i (window_of c.args.unit.now flow) (station_in P c.get.result) (record w { made = c.made_at_let.result; stage = Open })
    (stations_get P flow.ring.completed c.args.i c.get.result c.get.ensures) (λ l. absurd (omega (arith, l, c.if-i-from.false)))
    (λ l. ap (λ m. record w { made = m; stage = Open }) made ∙ ap as_let c.station_of-station.ensures)
