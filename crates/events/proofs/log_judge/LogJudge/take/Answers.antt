use Rattle.std.proofs.Common.{[], ◌∷◌}
use Rattle.events.specs.Items.{Judges}
use Rattle.events.proofs.InTurn.{err_so, judges_then, ok_err, ok_ok, ok_so, refused_early, refused_then}
use Rattle.events.proofs.log_judge.LogJudge.take.Goals as goal

pub returns-in-Ok-clause-ok : goal.returns-in-Ok-clause-ok
returns-in-Ok-clause-ok c =
    let first : Judges c.args.self.now [] c.settle_before.new.self = ok_so c.in_ok-settle_before.field-0 _ _ c.in-Ok.is c.in_ok-settle_before.ensures.ok in
    ok_ok c.judge_or_keep.result _ _ (λ more. judges_then c.args.self.now c.settle_before.new.self c.judge_or_keep.new.self (c.args.item ∷ []) first more)
    c.judge_or_keep.ensures.ok

pub returns-in-Ok-clause-err : goal.returns-in-Ok-clause-err
returns-in-Ok-clause-err c =
    let first : Judges c.args.self.now [] c.settle_before.new.self = ok_so c.in_ok-settle_before.field-0 _ _ c.in-Ok.is c.in_ok-settle_before.ensures.ok in
    ok_err c.judge_or_keep.result _ _ (λ refused late. refused_then c.args.self.now c.settle_before.new.self c.judge_or_keep.new.self.judge.unit
    (c.args.item ∷ []) refused first late) c.judge_or_keep.ensures.err

pub returns-in-Err-clause-err : goal.returns-in-Err-clause-err
returns-in-Err-clause-err c =
    refused_early c.args.self.now.judge.unit c.settle_before.new.self.judge.unit c.args.self.now.waiting.items (c.args.item ∷ []) c.in-Err.refused
    (err_so c.in_ok-settle_before.field-0 c.in-Err.refused _ c.in-Err.is c.in_ok-settle_before.ensures.err)
