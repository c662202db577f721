use Rattle.std.proofs.Common.{map}
use Rattle.std.proofs.lemmas.Result.{err_from_is_err_and}
use Rattle.command_line.specs.Tool.{app_of_word}
use Rattle.command_line.specs.Values.{rows_in}
use Rattle.command_line.proofs.Refusing.{is_read, refused_unread}
use Rattle.command_line.proofs.reading.read.Goals as goal

pub returns-in_err-entries : goal.returns-in_err-entries
returns-in_err-entries g c =
    let left = c.from_residual in
    let p = err_from_is_err_and left.result left.ensures.1 in
    rw (p.1, p.2) (refused_unread (app_of_word c.args.word) (map g.S.AsStr.text c.args.words.now) g.Q.Request.Asks g.Q.Request.IsOdd
    c.in_err-entries.field-0.0 c.in_err-entries.ensures.err)

pub returns : goal.returns
returns g c =
    is_read c.args.word (map g.S.AsStr.text c.args.words.now) (rows_in c.in_ok-entries.entries) g.Q.Request.Asks g.Q.Request.IsOdd
    c.read.result c.in_ok-entries.ensures.ok c.read.ensures.ok c.read.ensures.err
