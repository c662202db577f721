use Rattle.std.proofs.Common.{arith}
use Rattle.std.proofs.lemmas.List.{length-take}
use Rattle.std.proofs.lemmas.Result.{err_from_is_err_and}
use Rattle.counted_io.proofs.Moved.{unread_before}
use Rattle.counted_io.proofs.input.read_up_to.Goals as goal

pub returns-in_err-n-clause-err : goal.returns-in_err-n-clause-err
returns-in_err-n-clause-err g c =
    let e = c.in_err-n in
    let left = c.from_residual in
    let p = err_from_is_err_and left.result left.ensures.1 in
    rw (p.1, p.2) (unread_before g.R.Read.remaining c.args.most _ _ _ _ c.reads.bytes.items
    (omega (arith, length-take c.min-want.result c.reads.chunk)) c.reads.invariant.quiet c.reads.invariant.taken e.field-0.0 e.ensures.err)
