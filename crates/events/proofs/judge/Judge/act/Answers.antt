use Rattle.std.proofs.Common.{ap}
use Rattle.replay.specs.declared.step.Step.TheVariants.{On}
use Rattle.events.proofs.Follow.{act_left, acted, refuses_here, told_once}
use Rattle.events.proofs.judge.Judge.act.Goals as goal

pub returns-in-Ok-clause-ok : goal.returns-in-Ok-clause-ok
returns-in-Ok-clause-ok c =
    let u = c.args.self.now.unit in
    let m = c.act.new.self in
    let ok = c.in-Ok.ensures in
    let program = ap (λ p. p.now) ok.program in
    told_once u m c.deliver_after.new.self (On c.args.who c.args.deed)
    (acted u m c.args.who c.args.deed ok.ok ok.done ok.length)
    program ok.sizes c.deliver_after.ensures.leads
    (λ quiet. c.deliver_after.ensures.quiet (act_left u m c.args.who c.args.deed ok.ok ok.done program quiet))

pub returns-in-Err-clause-err : goal.returns-in-Err-clause-err
returns-in-Err-clause-err c = refuses_here c.args.self.now.unit c.act.new.self c.args.who c.args.deed c.in-Err.refusal c.in-Err.ensures.same c.in-Err.ensures.err
