use Rattle.std.proofs.Common.{◌≡◌, ◌∙◌, true, false, sym, string_bytes, arith}
use Rattle.std.proofs.lemmas.Grind.{common_steps}
use Rattle.session.proofs.Undone.{as_done, as_undo}
use Rattle.session.proofs.undo.once.Goals as goal

pub returns-then-is_undo : goal.returns-then-is_undo
returns-then-is_undo g c =
    let is : c.is_undo.result ≡ true = grind (arith, common_steps, c.if-is_undo.true) in
    as_undo string_bytes c.undo.result c.args.session.now c.undo.new.session c.args.number c.args.line (sym c.is_undo.ensures ∙ is) c.undo.ensures

pub returns-else-is_undo : goal.returns-else-is_undo
returns-else-is_undo g c =
    let is : c.is_undo.result ≡ false = grind (arith, common_steps, c.if-is_undo.false) in
    as_done string_bytes c.told.result c.args.session.now c.told.new.session c.args.number c.args.line (sym c.is_undo.ensures ∙ is) c.told.ensures
