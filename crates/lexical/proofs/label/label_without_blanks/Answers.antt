use Rattle.std.proofs.Common.{◌∙◌, sym, arith}
use Rattle.std.proofs.lemmas.Bool.{eq-eqb}
use Rattle.lexical.proofs.Labels.{label_first}
use Rattle.lexical.proofs.label.label_without_blanks.Goals as goal

pub returns-clause-label : goal.returns-clause-label
returns-clause-label c =
    (label_first c.args.code.now _ _ _ c.in_ok-end.end (sym c.end_of_name.ensures ∙ c.in_ok-end.was) (omega arith) (eq-eqb _ _ c.if-code-end-ne58.false)
    (sym c.is_ascii_digit.ensures.value ∙ c.if-is_ascii_digit.false)
    c.split_at.ensures.front c.split_at.ensures.back c.split_at-2.ensures.back).0

pub returns-clause-statement : goal.returns-clause-statement
returns-clause-statement c =
    (label_first c.args.code.now _ _ _ c.in_ok-end.end (sym c.end_of_name.ensures ∙ c.in_ok-end.was) (omega arith) (eq-eqb _ _ c.if-code-end-ne58.false)
    (sym c.is_ascii_digit.ensures.value ∙ c.if-is_ascii_digit.false)
    c.split_at.ensures.front c.split_at.ensures.back c.split_at-2.ensures.back).1
