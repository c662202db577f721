use Rattle.std.proofs.Common.{refl}
use Rattle.events.proofs.InTurn.{judges_now, none_waits, ok_ok}
use Rattle.events.proofs.log_judge.LogJudge.judge_or_keep.Goals as goal

pub returns-then-not-is_open-clause-ok : goal.returns-then-not-is_open-clause-ok
returns-then-not-is_open-clause-ok c =
    let waiting = c.args.self.now.waiting in
    let none = none_waits waiting.len waiting.items c.is_empty.result waiting.ok.0 c.is_empty.ensures c.if-is_empty.true in
    ok_ok c.judge_in_turn.result _ _ (λ taken. judges_now c.args.self.now _ c.args.item none refl taken) c.judge_in_turn.ensures.ok
