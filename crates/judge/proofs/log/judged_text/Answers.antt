use Rattle.judge.proofs.Statuses.{status_is}
use Rattle.judge.proofs.log.judged_text.Goals as goal

pub returns : goal.returns
returns g c =
    status_is c.args.issue c.args.judge.unit c.in_ok-verdict.held.judge.unit (g.L.Read.remaining c.args.log.now) c.in_ok-verdict.verdict
    c.ended_by.result c.in_ok-verdict.ensures c.ended_by.ensures
