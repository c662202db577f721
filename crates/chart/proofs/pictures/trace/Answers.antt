use Rattle.std.proofs.Common.{◌∙◌, Err, ap, arith, subst}
use Rattle.std.proofs.lemmas.Result.{err_from_is_err_and}
use Rattle.counted_io.specs.Counted.{GivesPart}
use Rattle.chart.specs.Answers.{log_head}
use Rattle.chart.proofs.Shown.{log_broken, log_written, no_room, no_write, part_begun, whole_begun}
use Rattle.chart.proofs.Turns.{ahead_falls, of_some}
use Rattle.chart.proofs.pictures.trace.Goals as goal

pub returns-in_err-write_whole : goal.returns-in_err-write_whole
returns-in_err-write_whole g c =
    let left = c.from_residual-in_err-write_whole in
    let p = err_from_is_err_and left.result left.ensures.1 in
    let part = subst (GivesPart g.L.Write.contents c.args.log.now c.write_whole.new.writer) c.as_bytes.ensures.value c.in_err-write_whole.ensures.err in
    no_write g.L.Write.contents _ _ _ _ left.result p.0 p.1 p.2 (part_begun log_head _ _ part.0 part.1 part.2) c.in_err-write_whole.ensures.failed

pub returns-in_err-events : goal.returns-in_err-events
returns-in_err-events g c =
    let left = c.from_residual-in_err-events in
    let p = err_from_is_err_and left.result left.ensures.1 in
    no_room g.L.Write.contents _ _ _ _ left.result p.0 p.1 p.2 (whole_begun log_head _ _ c.turns.invariant.says) c.turns.invariant.quiet

pub returns-in_err-write_text : goal.returns-in_err-write_text
returns-in_err-write_text g c =
    let left = c.from_residual-in_err-write_text in
    let p = err_from_is_err_and left.result left.ensures.1 in
    log_broken g.L.Write.contents c.args.log.now c.turns.log c.write_text.new.writer log_head c.turn_text.result c.turns.invariant.says c.turns.invariant.quiet
    left.result c.in_err-write_text.field-0.0 (p.1 ∙ ap Err p.2) c.in_err-write_text.ensures

pub turns-smaller : goal.turns-smaller
turns-smaller g c =
    ahead_falls _ c.turns.traced c.turn.new.self c.turns.invariant.traced _
    (of_some _ _ c.in-Some.events c.in-Some.is c.in_ok-events.ensures.turned _ c.turns.invariant.traced)

pub turns-preserved : goal.turns-preserved
turns-preserved g c =
    let turned = of_some _ _ c.in-Some.events c.in-Some.is c.in_ok-events.ensures.turned _ c.turns.invariant.traced in
    record {
      quiet = omega (arith, c.in_ok-write_text.ensures.failures, c.turns.invariant.quiet);
      says = log_written g.L.Write.contents c.args.log.now c.turns.log c.write_text.new.writer log_head c.turn_text.result c.turns.invariant.says
          c.in_ok-write_text.ensures;
      traced = turned.traced;
    }
