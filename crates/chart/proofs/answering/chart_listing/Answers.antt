use Rattle.std.proofs.Common.{rules, ◌≡◌, Err, Ok, is_some}
use Rattle.isa.specs.Listing.{listing}
use Rattle.answers.specs.Answer.{text_for}
use Rattle.answers.specs.declared.outcome.Status.TheVariants.{TextFault}
use Rattle.chart.proofs.Shown.{line_written}
use Rattle.chart.proofs.answering.chart_listing.Goals as goal

pub returns-in_ok-write_whole-in-Err-2 : goal.returns-in_ok-write_whole-in-Err-2
returns-in_ok-write_whole-in-Err-2 g c =
    let is : listing c.args.bytes.now ≡ Err (c.in-Err-2.fault.line, c.in-Err-2.fault.kind) = search rules in
    let text : c.as_bytes.result.now ≡ text_for c.args.asked.now.run.config.limit (Err (c.in-Err-2.fault.line, c.in-Err-2.fault.kind)) = search rules in
    line_written g.W.Write.contents g.L.Write.contents (is_some c.args.asked.now.log) c.args.asked.now.run.config.limit (listing c.args.bytes.now)
    c.args.writer.now c.write_whole.new.writer c.args.log.now (Ok TextFault) (c.in-Err-2.fault.line, c.in-Err-2.fault.kind) c.as_bytes.result.now is text
    c.in_ok-write_whole-in-Err-2.ensures.ok c.in_ok-write_whole-in-Err-2.ensures.quiet
