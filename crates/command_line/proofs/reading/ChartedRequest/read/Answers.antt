use Rattle.std.proofs.Common.{rules}
use Rattle.std.proofs.lemmas.Result.{err_from_is_err_and}
use Rattle.command_line.specs.declared.request.Charted.{Charted}
use Rattle.command_line.specs.Requests.{IsChartedBy, run_settings}
use Rattle.command_line.specs.Values.{rows_in}
use Rattle.command_line.proofs.reading.ChartedRequest.read.Goals as goal

pub returns-in_err-config-clause-err : goal.returns-in_err-config-clause-err
returns-in_err-config-clause-err c =
    let left = c.from_residual-in_err-config in
    let p = err_from_is_err_and left.result left.ensures.1 in
    let odd = c.in_err-config.ensures.err in
    let request : Charted = record {
      run = record {
        file = c.in_ok-file.file;
        config = run_settings c.in_ok-ring.ring c.in_ok-queue.queue 2 c.in_ok-limit.limit 4294967295;
        predictor = c.in_ok-predictor.predictor;
        seed = c.in_ok-seed.seed;
      };
      log = c.in_ok-log.log;
      rows = c.in_ok-rows.rows;
      by_leave = c.flag-by_leave.result;
    } in
    let held : IsChartedBy (rows_in c.args.entries.now) request = search rules in
    rw (p.1, p.2, odd.0) (request, (held, odd.1))
