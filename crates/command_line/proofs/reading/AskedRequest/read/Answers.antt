use Rattle.std.proofs.Common.{rules}
use Rattle.std.proofs.lemmas.Result.{err_from_is_err_and}
use Rattle.command_line.specs.declared.request.Asked.{Asked}
use Rattle.command_line.specs.Requests.{IsAskedBy, run_settings}
use Rattle.command_line.specs.Values.{rows_in}
use Rattle.command_line.proofs.reading.AskedRequest.read.Goals as goal

pub returns-in_err-config-clause-err : goal.returns-in_err-config-clause-err
returns-in_err-config-clause-err c =
    let left = c.from_residual-in_err-config in
    let p = err_from_is_err_and left.result left.ensures.1 in
    let odd = c.in_err-config.ensures.err in
    let request : Asked = record {
      file = c.in_ok-file.file;
      config = run_settings c.in_ok-ring.ring c.in_ok-queue.queue c.in_ok-units.units c.in_ok-limit.limit c.in_ok-turns.turns;
      predictor = c.in_ok-predictor.predictor;
      alone = c.flag-alone.result;
      progress = c.flag-progress.result;
      seed = c.in_ok-seeds.seeds.turns;
      shake = c.in_ok-seeds.seeds.shake;
    } in
    let held : IsAskedBy (rows_in c.args.entries.now) request = search rules in
    rw (p.1, p.2, odd.0) (request, (held, odd.1))
