use Rattle.std.specs.Option.{option_map}
use Rattle.std.proofs.lemmas.Result.{err_from_is_err_and}
use Rattle.lexical.specs.Line.{lines_left}
use Rattle.isa.proofs.listing.line.read_first_line.Goals as goal

pub returns-in_err-read_line-clause-fault : goal.returns-in_err-read_line-clause-fault
returns-in_err-read_line-clause-fault c =
    let p = err_from_is_err_and c.from_residual.result c.from_residual.ensures.1 in
    let it = c.next_code.ensures.code in
    rw (p.1, p.2) (λ apart before is. record {
      line = it.line;
      others = lines_left (option_map (λ r. r.now) c.next_code.result.1);
      lines = it.lines;
      fault = c.in_err-read_line.ensures.fault apart before it.line it.code_is is;
    })

pub returns-clause-ok : goal.returns-clause-ok
returns-clause-ok c = λ before n is.
    let it = c.next_code.ensures.code in
    let read = c.in_ok-read_line.ensures.ok before it.line it.code_is n is in
    record { line = it.line; lines = it.lines; fault = read.0; read = read.1 }
