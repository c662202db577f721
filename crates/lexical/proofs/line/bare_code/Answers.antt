use Rattle.std.proofs.Common.{◌∙◌, sym}
use Rattle.std.proofs.lemmas.Bool.{eq-eqb}
use Rattle.lexical.proofs.Lines.{last_code, code_first}
use Rattle.lexical.proofs.line.bare_code.Goals as goal

pub returns-in_default-clause-code : goal.returns-in_default-clause-code
returns-in_default-clause-code c = last_code c.args.text.now (sym c.end_of_code.ensures ∙ c.in_default.is)

pub returns-clause-code : goal.returns-clause-code
returns-clause-code c =
    code_first c.args.text.now _ _ _ c.in-Some.end (sym c.end_of_code.ensures ∙ c.in-Some.is) (eq-eqb _ _ c.if-text-end-ne10.false)
    c.split_at.ensures.front c.split_at.ensures.back c.split_at-2.ensures.back
