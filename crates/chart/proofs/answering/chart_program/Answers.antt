use Rattle.std.proofs.Common.{rules, ◌≡◌, Err, ap, is_some, true}
use Rattle.chart.proofs.Shown.{no_log}
use Rattle.chart.proofs.answering.chart_program.Goals as goal

pub returns-in-Err : goal.returns-in-Err
returns-in-Err g c =
    let wanted : is_some c.args.asked.now.log ≡ true = search rules in
    no_log g.W.Write.contents g.L.Write.contents (is_some c.args.asked.now.log) c.args.asked.now.run.config.limit c.args.program.now c.args.writer.now
    c.draw.new.writer c.args.log.now c.trace.new.log c.in_ok-status.status wanted c.in_ok-status.ensures (Err c.log_refusal.result) c.in-Err.fault
    (ap Err c.log_refusal.ensures) c.in-Err.ensures
