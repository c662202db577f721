use Rattle.std.proofs.Common.{sym}
use Rattle.lexical.proofs.Splits.{split_none, split_some, after_none, after_some}
use Rattle.lexical.proofs.cuts.cut.Goals as goal

pub returns-in-None-clause-parts : goal.returns-in-None-clause-parts
returns-in-None-clause-parts c = split_none _ c.args.text.now (sym c.in-None.ensures)

pub returns-in-None-clause-rest : goal.returns-in-None-clause-rest
returns-in-None-clause-rest c = after_none c.args.at c.args.text.now (sym c.in-None.ensures)

pub returns-in-Some-clause-parts : goal.returns-in-Some-clause-parts
returns-in-Some-clause-parts c =
    split_some _ c.args.text.now _ _ _ c.in-Some.i (sym c.in-Some.ensures) c.split_at.ensures.front c.split_at.ensures.back
    c.split_at-in-Some.ensures.back

pub returns-in-Some-clause-rest : goal.returns-in-Some-clause-rest
returns-in-Some-clause-rest c =
    after_some c.args.at c.args.text.now _ _ c.in-Some.i (sym c.in-Some.ensures) c.split_at.ensures.back c.split_at-in-Some.ensures.back
