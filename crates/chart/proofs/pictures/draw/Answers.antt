use Rattle.std.proofs.Common.{◌≡◌, ◌∙◌, Err, Ok, ap, refl, subst}
use Rattle.std.proofs.lemmas.Result.{err_from_is_err_and}
use Rattle.answers.specs.Answer.{ending_status, report_of_run, text_for}
use Rattle.counted_io.specs.Counted.{Gives, GivesPart}
use Rattle.chart.proofs.Shown.{more_broken, more_written, no_room, no_write, none_begun, part_begun}
use Rattle.chart.proofs.pictures.draw.Goals as goal

pub returns-in_err-report : goal.returns-in_err-report
returns-in_err-report g c =
    let left = c.from_residual-in_err-report in
    let p = err_from_is_err_and left.result left.ensures.1 in
    no_room g.W.Write.contents _ _ _ _ left.result p.0 p.1 p.2 (none_begun _ _) refl

pub returns-in_err-write_whole : goal.returns-in_err-write_whole
returns-in_err-write_whole g c =
    let left = c.from_residual-in_err-write_whole in
    let p = err_from_is_err_and left.result left.ensures.1 in
    let same : c.as_bytes.result.now ≡ text_for c.args.asked.now.run.config.limit (Ok c.args.program.now) =
    c.as_bytes.ensures.value ∙ c.as_str.ensures.value ∙ c.in_ok-report.ensures ∙ ap report_of_run c.in_ok-drawn.ensures.is in
    let part = subst (GivesPart g.W.Write.contents c.args.writer.now c.write_whole.new.writer) same c.in_err-write_whole.ensures.err in
    no_write g.W.Write.contents _ _ _ _ left.result p.0 p.1 p.2 (part_begun _ _ _ part.0 part.1 part.2) c.in_err-write_whole.ensures.failed

pub returns-in_err-write_text : goal.returns-in_err-write_text
returns-in_err-write_text g c =
    let left = c.from_residual-in_err-write_text in
    let p = err_from_is_err_and left.result left.ensures.1 in
    let same : c.as_bytes.result.now ≡ text_for c.args.asked.now.run.config.limit (Ok c.args.program.now) =
    c.as_bytes.ensures.value ∙ c.as_str.ensures.value ∙ c.in_ok-report.ensures ∙ ap report_of_run c.in_ok-drawn.ensures.is in
    more_broken g.W.Write.contents c.args.writer.now c.write_whole.new.writer c.write_text.new.writer
    (text_for c.args.asked.now.run.config.limit (Ok c.args.program.now)) c.chart_text.result
    (subst (Gives g.W.Write.contents c.args.writer.now c.write_whole.new.writer) same c.in_ok-write_whole.ensures.ok) c.in_ok-write_whole.ensures.quiet
    _ left.result c.in_err-write_text.field-0.0 (p.1 ∙ ap Err p.2) c.in_err-write_text.ensures

pub returns : goal.returns
returns g c =
    let same : c.as_bytes.result.now ≡ text_for c.args.asked.now.run.config.limit (Ok c.args.program.now) =
    c.as_bytes.ensures.value ∙ c.as_str.ensures.value ∙ c.in_ok-report.ensures ∙ ap report_of_run c.in_ok-drawn.ensures.is in
    let all = more_written g.W.Write.contents c.args.writer.now c.write_whole.new.writer c.write_text.new.writer
    (text_for c.args.asked.now.run.config.limit (Ok c.args.program.now)) c.chart_text.result
    (subst (Gives g.W.Write.contents c.args.writer.now c.write_whole.new.writer) same c.in_ok-write_whole.ensures.ok) c.in_ok-write_whole.ensures.quiet
    c.in_ok-write_text.ensures in
    record {
      says = (c.of.ensures ∙ ap (λ e. ending_status e.0) c.in_ok-drawn.ensures.is, all.says);
      failures = all.failures;
    }
