use Rattle.std.proofs.Common.{◌≡◌, ◌+◌, ◌∙◌, false, true, sym, subst, IfNone, IfSome, arith}
use Rattle.std.proofs.lemmas.Grind.{common_steps}
use Rattle.counted_io.specs.Counted.{known_by}
use Rattle.session.specs.Scripts.{LineIsTold, NothingWasLeft}
use Rattle.std.proofs.lemmas.Result.{err_from_is_err_and}
use Rattle.session.proofs.Scripts.{all_told, broken, last_told, one_more_told}
use Rattle.session.proofs.script.drive.Goals as goal

pub loop-number-preserved : goal.loop-number-preserved
loop-number-preserved g c =
    let at = c.loop-number in
    let next = c.tell_line.new in
    let one = c.in_ok-told.ensures in
    let goes : c.ends_script.result ≡ false = grind (arith, common_steps, c.if-ends_script.false) in
    let sent = known_by g.W.Write.contents in
    let from = g.I.Read.remaining in
    let told = subst (λ x. IfSome x (LineIsTold c.args.echo (from at.reader) (from next.reader) at.session next.session (at.number + 1) (sent at.writer) (sent next.writer))) c.in-Some.is one.line in
    record {
      quiet = one.quiet ∙ at.invariant.quiet;
      told = one_more_told c.args.echo (from c.args.reader.now) (from at.reader) (from next.reader) c.args.session.now at.session next.session
          (sent c.args.writer.now) (sent at.writer) (sent next.writer) at.number at.each c.is_each-each.result c.in-Some.line
          at.invariant.told told (sym c.ends_script.ensures ∙ goes) c.is_each-each.ensures;
    }

pub returns-in_err-told-clause-broken : goal.returns-in_err-told-clause-broken
returns-in_err-told-clause-broken g c =
    let at = c.loop-number in
    let sent = known_by g.W.Write.contents in
    let from = g.I.Read.remaining in
    let p = err_from_is_err_and c.from_residual.result c.from_residual.ensures.1 in
    rw (p.1, p.2) (λ is. broken c.args.echo (from c.args.reader.now) (from at.reader) c.args.session.now at.session
    (sent c.args.writer.now) (sent at.writer) (sent c.tell_line.new.writer) at.number at.each at.invariant.told (c.in_err-told.ensures.cut is))

pub returns-in_default-clause-ok : goal.returns-in_default-clause-ok
returns-in_default-clause-ok g c =
    let at = c.loop-number in
    let next = c.tell_line.new in
    let sent = known_by g.W.Write.contents in
    let from = g.I.Read.remaining in
    let end = subst (λ x. IfNone x (NothingWasLeft (from at.reader) at.session next.session (sent at.writer) (sent next.writer))) c.in_default.is c.in_ok-told.ensures.end in
    all_told c.args.echo (from c.args.reader.now) (from at.reader) c.args.session.now at.session next.session
    (sent c.args.writer.now) (sent at.writer) (sent next.writer) at.number at.each at.invariant.told end

pub returns-then-ends_script-clause-ok : goal.returns-then-ends_script-clause-ok
returns-then-ends_script-clause-ok g c =
    let at = c.loop-number in
    let next = c.tell_line.new in
    let ends : c.ends_script.result ≡ true = grind (arith, common_steps, c.if-ends_script.true) in
    let sent = known_by g.W.Write.contents in
    let from = g.I.Read.remaining in
    let told = subst (λ x. IfSome x (LineIsTold c.args.echo (from at.reader) (from next.reader) at.session next.session (at.number + 1) (sent at.writer) (sent next.writer)))
    c.in-Some.is c.in_ok-told.ensures.line in
    last_told c.args.echo (from c.args.reader.now) (from at.reader) (from next.reader) c.args.session.now at.session next.session
    (sent c.args.writer.now) (sent at.writer) (sent next.writer) at.number at.each c.in-Some.line at.invariant.told told (sym c.ends_script.ensures ∙ ends)
