use Rattle.std.proofs.Common.{◌≡◌, ◌∙◌, length, sym, string_bytes, arith}
use Rattle.std.proofs.lemmas.Grind.{common_steps}
use Rattle.session.proofs.Undone.{had_nothing, no_items}
use Rattle.session.proofs.undo.undo.Goals as goal

pub returns-in_default : goal.returns-in_default
returns-in_default g c =
    let lines = c.take_lines-lines in
    let zero : length lines.result.items ≡ 0 = grind (arith, common_steps, c.in_default.ensures.cases, lines.result.ok) in
    had_nothing string_bytes c.nothing.result c.args.session.now _ c.args.number (sym lines.ensures.lines ∙ no_items lines.result.items zero) lines.ensures.none c.nothing.ensures
