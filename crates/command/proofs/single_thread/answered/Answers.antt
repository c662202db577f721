use Rattle.std.proofs.Common.{◌∙◌, string_bytes}
use Rattle.std.proofs.lemmas.Result.{err_from_is_err_and}
use Rattle.command_line.specs.declared.exit.Refusal.TheVariants.{Memory}
use Rattle.on_threads.specs.Answers.{IsSomeAnswerTo}
use Rattle.on_threads.proofs.Answering.{has_answered, has_begun_answer, not_run}
use Rattle.command.proofs.single_thread.answered.Goals as goal

pub returns-clause-ok : goal.returns-clause-ok
returns-clause-ok g c =
    let found = c.in_ok-listing in
    has_answered g.R.Read.remaining g.W.Write.contents _ _ _ _ c.args.asked.now found.listing (string_bytes c.in_ok-exit.text) _
    c.in_ok-exit.exit c.in_ok-exit.ensures.ok found.ensures.read found.ensures.ok (c.as_bytes.ensures.value ∙ c.as_str.ensures.value)
    c.in_ok-write_whole.ensures.ok c.in_ok-write_whole.ensures.quiet

pub returns-in_err-exit-clause-err : goal.returns-in_err-exit-clause-err
returns-in_err-exit-clause-err g c =
    let left = c.from_residual-in_err-exit in
    let p = err_from_is_err_and left.result left.ensures.1 in
    rw (p.1, p.2) (not_run g.R.Read.remaining g.W.Write.contents c.args.reader.now c.read_listing.new.reader c.args.writer.now
    (IsSomeAnswerTo c.args.asked.now) Memory tt c.in_ok-listing.ensures.read)

pub returns-in_err-write_whole-clause-err : goal.returns-in_err-write_whole-clause-err
returns-in_err-write_whole-clause-err g c =
    let found = c.in_ok-listing in
    let left = c.from_residual-in_err-write_whole in
    let p = err_from_is_err_and left.result left.ensures.1 in
    rw (p.1, p.2) (has_begun_answer g.R.Read.remaining g.W.Write.contents _ _ _ _ c.args.asked.now found.listing
    (string_bytes c.in_ok-exit.text) _ c.in_ok-exit.exit c.in_ok-exit.ensures.ok found.ensures.read found.ensures.ok
    (c.as_bytes.ensures.value ∙ c.as_str.ensures.value) c.in_err-write_whole.ensures.err c.in_err-write_whole.ensures.failed)
