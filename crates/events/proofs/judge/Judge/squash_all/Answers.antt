use Rattle.std.specs.List.{AllByRecursion}
use Rattle.events.specs.Told.{IsSquashAfter}
use Rattle.events.proofs.Follow.{all_after, refuses_after, squashes_none, squashes_then}
use Rattle.events.proofs.judge.Judge.squash_all.Goals as goal

pub loop-turn-init : goal.loop-turn-init
loop-turn-init c = squashes_none c.args.self.now.unit c.args.who

pub loop-turn-preserved : goal.loop-turn-preserved
loop-turn-preserved c =
    squashes_then c.args.self.now.unit c.loop-turn.self.unit c.squash_younger.new.self.unit c.args.who c.loop-turn.invariant c.in-Ok.ensures.ok

pub returns-then-not-more-clause-ok : goal.returns-then-not-more-clause-ok
returns-then-not-more-clause-ok c =
    squashes_then c.args.self.now.unit c.loop-turn.self.unit c.squash_younger.new.self.unit c.args.who c.loop-turn.invariant c.in-Ok.ensures.ok

pub returns-in-Err-clause-err : goal.returns-in-Err-clause-err
returns-in-Err-clause-err c =
    refuses_after c.args.self.now.unit c.loop-turn.self.unit c.squash_younger.new.self.unit c.loop-turn.invariant.told c.in-Err.why
    (AllByRecursion (IsSquashAfter c.args.who)) (AllByRecursion (IsSquashAfter c.args.who)) c.loop-turn.invariant.follows c.in-Err.ensures.err
    (λ rr a. all_after c.args.who rr c.loop-turn.invariant.told a c.loop-turn.invariant.are)
