use Rattle.std.proofs.Common.{rules}
use Rattle.checker.specs.Reach.{IsStackUnset}
use Rattle.checker.specs.Warnings.{AreWarnedOf, IsOfInstruction, StandsOn}
use Rattle.checker.proofs.Warned.{all_warned, none_warned, of_instruction}
use Rattle.checker.proofs.warnings.push_numbered.Goals as goal
use Rattle.checker.proofs.warnings.push_numbered.Goals.{then-is_stack_unset+in_ok-help+in_ok-push_warning, else-is_stack_unset}
use Rattle.checker.proofs.warnings.push_numbered.Goals.{in-Some+in_ok-push_warning-2, in_default}

pub push_warning-requires-clause-right : goal.push_warning-requires-clause-right
push_warning-requires-clause-right c =
    let good = c.args.good.now in
    let stands : StandsOn good.bytes.now c.args.k c.args.spot.number = search rules in
    let unset : IsStackUnset good.program.now c.args.k = search rules in
    (c.args.k, (stands, unset))

pub push_warning-requires-in-Some-clause-right : goal.push_warning-requires-in-Some-clause-right
push_warning-requires-in-Some-clause-right c =
    let good = c.args.good.now in
    let stands : StandsOn good.bytes.now c.args.k c.args.spot.number = search rules in
    let right : IsOfInstruction good.program.now c.args.k c.in-Some.warning = rw c.in-Some.is at c.warning_at.ensures in
    of_instruction good.bytes.now good.program.now c.args.k c.args.spot.number c.args.spot.line.now c.marked-part.result c.in-Some.warning
    stands right

pub returns : goal.returns
returns c =
    let good = c.args.good.now in
    let old = c.args.text.now.items in
    let first : AreWarnedOf good old c.if-is_stack_unset.text.items = elim c.if-is_stack_unset.branch [
      | then-is_stack_unset+in_ok-help+in_ok-push_warning w ↦ rw w.text-is w.in_ok-push_warning.ensures
      | else-is_stack_unset w ↦ rw w.text-is (none_warned _ _ _ _)
    ] in
    elim c.match-warning_at.branch [
      | in-Some+in_ok-push_warning-2 w ↦ rw w.text-is (all_warned _ _ _ _ _ _ first w.in_ok-push_warning-2.ensures)
      | in_default w ↦ rw w.text-is first
    ]
