use Rattle.std.proofs.Common.{◌≡◌, ◌+◌, ◌∙◌, ap, subst, sym, add-one, string_bytes, arith}
use Rattle.std.proofs.lemmas.Grind.{common_steps}
use Rattle.session.specs.declared.commands.Command.{Command}
use Rattle.session.specs.Turns.{AreTried, IsTried, row_command, row_commands}
use Rattle.session.proofs.tables.table.Goals as goal

pub loop-row-preserved : goal.loop-row-preserved
loop-row-preserved g c =
    let at = c.loop-row in
    let next = c.push_row.new in
    let first = c.args.session.now in
    let ring = first.core.sizes.ring in
    let command = c.row_command.ensures ∙ ap (λ r. row_command r at.row) c.ring-ring.ensures.value in
    let row = subst (λ (d : Command). IsTried c.args.number at.session next.session d (string_bytes at.out) (string_bytes next.out)) command c.in_ok-push_row.ensures in
    subst (λ n. AreTried c.args.number first (row_commands ring n) (string_bytes next.out) next.session) (sym (add-one at.row)) (at.session, string_bytes at.out, at.invariant, row)

pub returns : goal.returns
returns g c =
    let at = c.loop-row in
    let first = c.args.session.now in
    let ring = first.core.sizes.ring in
    let done : at.row ≡ ring + 34 + 1 = grind (arith, common_steps, c.loop-row-test.false, c.loop-row.auto.row-end, c.ring-ring.ensures.value) in
    subst (λ n. AreTried c.args.number first (row_commands ring n) (string_bytes at.out) at.session) done at.invariant
