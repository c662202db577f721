use Rattle.events.proofs.InTurn.{err_so, ok_so, one_more_taken, refused_at}
use Rattle.events.proofs.log_judge.judge_in_turn.Goals as goal

pub returns-in-Err-clause-err : goal.returns-in-Err-clause-err
returns-in-Err-clause-err c =
    refused_at c.args.judge.now.unit c.loop-item.judge.unit c.event.new.self.unit c.args.items.now c.loop-item.item-index _ c.in-Err.why
    c.loop-item-test.true c.loop-item.invariant (err_so c.in_ok-event.field-0 c.in-Err.why _ c.in-Err.is c.in_ok-event.ensures.err)

pub loop-item-preserved : goal.loop-item-preserved
loop-item-preserved c =
    one_more_taken c.args.judge.now.unit c.loop-item.judge.unit c.event.new.self.unit c.args.items.now c.loop-item.item-index _
    c.loop-item-test.true c.loop-item.invariant (ok_so c.in_ok-event.field-0 _ _ c.in-Ok.is c.in_ok-event.ensures.ok)
