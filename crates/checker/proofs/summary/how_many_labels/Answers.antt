use Rattle.std.proofs.Common.{◌≤◌, ◌+◌, arith, length}
use Rattle.std.specs.Option.{option_map}
use Rattle.lexical.specs.Line.{before_comment, lines_of, lines_left}
use Rattle.checker.proofs.Lengths.{counted_in, lines_fit, total}
use Rattle.checker.proofs.summary.how_many_labels.Goals as goal

pub overflow_add-n : goal.overflow_add-n
overflow_add-n c =
    let line = c.next_line.result.0.now in
    let small : c.labels_in-n.result ≤ length (before_comment line) = rw c.before_comment-code.ensures at c.labels_in-n.ensures.small in
    let fits : c.loop-rest.n + total (lines_of c.in-Some.text.now) ≤ total (lines_of c.args.bytes.now) =
    rw c.in-Some.is at c.loop-rest.invariant.size in
    let step = counted_in (lines_left (option_map (λ r. r.now) c.next_line.result.1)) (lines_of c.in-Some.text.now) line c.loop-rest.n
    c.labels_in-n.result (total (lines_of c.args.bytes.now)) c.next_line.ensures.lines small fits in
    omega (arith, step, lines_fit c.args.bytes.now)
