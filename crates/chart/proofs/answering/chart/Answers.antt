use Rattle.std.proofs.Common.{refl}
use Rattle.chart.proofs.Shown.{refused_with}
use Rattle.chart.proofs.answering.chart.Goals as goal

pub returns-in-Ok-clause-answer : goal.returns-in-Ok-clause-answer
returns-in-Ok-clause-answer g c = (
  c.in-Ok.status,
  c.number.ensures,
  record { old = c.in-Some.reader; new = c.chart_input.new.reader; was = c.in-Some.is; is = refl; holds = c.in-Ok.ensures },
)

pub returns-in-Err-clause-answer : goal.returns-in-Err-clause-answer
returns-in-Err-clause-answer g c =
    refused_with g.R.Read.remaining g.W.Write.contents g.L.Write.contents c.args.asked.now c.in-Some.reader c.chart_input.new.reader c.args.writer.now
    c.chart_input.new.writer c.args.log.now c.chart_input.new.log c.args.reader.now _ c.in-Err.refusal c.refused-in-Err.result c.refused-in-Err.ensures
    c.in-Some.is refl c.in-Err.ensures
