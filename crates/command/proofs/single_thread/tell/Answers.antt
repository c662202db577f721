use Rattle.std.proofs.Common.{string_bytes}
use Rattle.command.proofs.AloneReports.{alone_reports}
use Rattle.command.proofs.single_thread.tell.Goals as goal

pub returns-clause-ok : goal.returns-clause-ok
returns-clause-ok c =
    rw c.in-Ok.is (alone_reports c.args.asked.now c.in-Ok.program c.in_ok-end.end c.of-status.result (string_bytes c.in_ok-text.text)
    c.written-2.result c.requires.alone c.in_ok-end.ensures c.of-status.ensures c.in_ok-text.ensures c.written-2.ensures)
