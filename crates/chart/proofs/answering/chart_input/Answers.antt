use Rattle.std.proofs.Common.{◌∙◌, Err, ap}
use Rattle.std.proofs.lemmas.Result.{err_from_is_err_and}
use Rattle.chart.proofs.Shown.{charts, unread}
use Rattle.chart.proofs.answering.chart_input.Goals as goal

pub returns-in_err-listing : goal.returns-in_err-listing
returns-in_err-listing g c =
    let left = c.from_residual in
    let p = err_from_is_err_and left.result left.ensures.1 in
    unread g.R.Read.remaining g.W.Write.contents g.L.Write.contents c.args.asked.now c.args.reader.now c.read_up_to.new.reader c.args.writer.now
    c.args.writer.now c.args.log.now c.args.log.now left.result c.in_err-listing.field-0.0 (p.1 ∙ ap Err p.2) c.in_err-listing.ensures.err

pub returns : goal.returns
returns g c =
    charts g.R.Read.remaining g.W.Write.contents g.L.Write.contents c.args.asked.now c.args.reader.now c.read_up_to.new.reader c.args.writer.now
    c.chart_listing.new.writer c.args.log.now c.chart_listing.new.log c.in_ok-listing.listing.items c.as_slice.result.now c.chart_listing.result
    c.in_ok-listing.ensures.read c.in_ok-listing.ensures.ok c.as_slice.ensures.value c.chart_listing.ensures
