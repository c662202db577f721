use Rattle.std.proofs.Common.{◌∙◌}
use Rattle.std.proofs.lemmas.Result.{err_from_is_err_and}
use Rattle.commit_log.proofs.LogKept.{all_written, last_broken}
use Rattle.commit_log.proofs.logging.log_run.Goals as goal

pub returns-in_err-write_whole : goal.returns-in_err-write_whole
returns-in_err-write_whole g c =
    let left = c.from_residual-in_err-write_whole in
    let p = err_from_is_err_and left.result left.ensures.1 in
    last_broken g.W.Write.contents c.args.writer.now c.log_blocks.new.writer c.write_whole.new.writer c.args.asked.now c.args.program.now _ _ _ _
    c.in_ok-machine.ensures c.in_ok-ending.ensures (c.as_bytes.ensures.value ∙ c.as_str.ensures.value) left.result p.0 p.1 p.2
    c.in_err-write_whole.ensures.err c.in_err-write_whole.ensures.failed

pub returns : goal.returns
returns g c =
    all_written g.W.Write.contents c.args.writer.now c.log_blocks.new.writer c.write_whole.new.writer c.args.asked.now c.args.program.now _ _ _ _
    c.in_ok-machine.ensures c.in_ok-ending.ensures (c.as_bytes.ensures.value ∙ c.as_str.ensures.value) c.in_ok-write_whole.ensures.ok
    c.in_ok-write_whole.ensures.quiet
