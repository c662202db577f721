use Rattle.std.proofs.Common.{string_bytes}
use Rattle.on_threads.proofs.ThreadAnswers.{thread_answers}
use Rattle.on_threads.proofs.threads.tell.Goals as goal

pub returns-clause-ok : goal.returns-clause-ok
returns-clause-ok g c =
    let ended = c.in_ok-end in
    let ran = c.run-run.ensures in
    rw c.in-Ok.is (thread_answers c.args.asked.now c.in-Ok.program c.run-run.result (ended.end, ended.tally)
    c.of-status.result (string_bytes c.in_ok-text.text) c.written-2.result
    c.requires.threads ran.right ran.within ran.turns
    ended.ensures.ok c.of-status.ensures c.in_ok-text.ensures c.written-2.ensures)
