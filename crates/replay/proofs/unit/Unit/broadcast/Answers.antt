use Rattle.std.proofs.Common.{arith}
use Rattle.replay.proofs.Broadcast.{delivered_more, delivers_silently, none_before}
use Rattle.replay.proofs.Due.{quiet_by, silently_nowhere, silently_then}
use Rattle.replay.proofs.unit.Unit.broadcast.Goals as goal

pub loop-q-init : goal.loop-q-init
loop-q-init c = record { leads = silently_nowhere c.args.self.now; due = none_before c.args.self.now c.args.who }

pub loop-q-preserved : goal.loop-q-preserved
loop-q-preserved c =
    let u = c.loop-q.self in
    let m = c.deliver_from.new.self in
    let v = c.deliver_from-in-loop-q.new.self in
    let one = delivers_silently u m c.args.who c.loop-q.q _ c.deliver_from.ensures in
    let two = delivers_silently m v c.args.who c.loop-q.q _ c.deliver_from-in-loop-q.ensures in
    record {
      leads = silently_then c.args.self.now u v c.loop-q.invariant.leads (silently_then u m v one two);
      due = λ due.
          delivered_more u m v c.args.who c.loop-q.q c.deliver_from.ensures c.deliver_from-in-loop-q.ensures (c.loop-q.invariant.due due);
    }

pub returns-clause-quiet : goal.returns-clause-quiet
returns-clause-quiet c = λ due.
    let same = c.loop-q.invariant.leads.length in
    let all = c.loop-q.invariant.due due in
    quiet_by c.loop-q.self (λ r k less. all.done r k (omega (arith, less, same, c.loop-q-test.false, c.len-q-end.ensures.len)))
