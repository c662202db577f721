use Rattle.std.proofs.Common.{arith}
use Rattle.replay.proofs.Due.{both_silently, dropped_not_due, quiet_by, silently_nowhere, silently_then, supplied_more}
use Rattle.replay.proofs.unit.Unit.supply_all.Goals as goal

pub loop-q-init : goal.loop-q-init
loop-q-init c =
    let u = c.args.self.now in
    record {
      leads = silently_nowhere u;
      done = λ r k less.
          dropped_not_due u.program.now u.tenants.items u.tenants.from u.settled.upto r k u.drops u.settles.within
          (omega (arith, less, c.first-q.ensures));
    }

pub loop-q-preserved : goal.loop-q-preserved
loop-q-preserved c =
    let u = c.loop-q.self in
    let v = c.supply_both.new.self in
    record {
      leads = silently_then c.args.self.now u v c.loop-q.invariant.leads (both_silently u v c.loop-q.q c.supply_both.ensures);
      done = supplied_more u v c.loop-q.q c.supply_both.ensures c.loop-q.invariant.done;
    }

pub returns-clause-quiet : goal.returns-clause-quiet
returns-clause-quiet c =
    let same = c.loop-q.invariant.leads.length in
    quiet_by c.loop-q.self
    (λ r k less. c.loop-q.invariant.done r k (omega (arith, less, same, c.loop-q-test.false, c.len-q-end.ensures.len)))
