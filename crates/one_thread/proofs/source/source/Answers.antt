use Rattle.std.proofs.Common.{◌≢◌, ◌<◌, Some, take, sym, ap, ◌∙◌, arith}
use Rattle.one_thread.proofs.Sources.{source_behind, source_made}
use Rattle.one_thread.proofs.source.source.Goals as goal

pub returns-in-Some : goal.returns-in-Some
returns-in-Some c =
    let nonzero : c.args.r ≢ 0 = λ e. c.if-number-eq0.false (c.number.ensures.value ∙ e) in
    let small : c.args.r < 34 = omega (arith, c.number.ensures.value, c.number.ensures.small) in
    sym (source_behind c.args.ahead.now.registers (take c.args.i c.args.window.now) c.before-2.result.0.now c.before-2.result.1.now c.args.r nonzero small c.before-2.ensures
    ∙ c.in-Some.ensures.behind _ ∙ source_made c.args.r _ c.in-Some.writer.now c.in-Some.ensures.writes)

pub returns-in-Some-youngest_writer : goal.returns-in-Some-youngest_writer
returns-in-Some-youngest_writer c =
    let nonzero : c.args.r ≢ 0 = λ e. c.if-number-eq0.false (c.number.ensures.value ∙ e) in
    let small : c.args.r < 34 = omega (arith, c.number.ensures.value, c.number.ensures.small) in
    sym (source_behind c.args.ahead.now.registers (take c.args.i c.args.window.now) c.before-2.result.0.now c.before-2.result.1.now c.args.r nonzero small c.before-2.ensures
    ∙ c.in_default.ensures.behind _ ∙ c.in-Some-youngest_writer.ensures.behind _
    ∙ source_made c.args.r _ c.in-Some-youngest_writer.writer.now c.in-Some-youngest_writer.ensures.writes)

pub returns-in-None : goal.returns-in-None
returns-in-None c =
    let nonzero : c.args.r ≢ 0 = λ e. c.if-number-eq0.false (c.number.ensures.value ∙ e) in
    let small : c.args.r < 34 = omega (arith, c.number.ensures.value, c.number.ensures.small) in
    ap Some c.register.ensures ∙ sym (source_behind c.args.ahead.now.registers (take c.args.i c.args.window.now) c.before-2.result.0.now c.before-2.result.1.now c.args.r nonzero small c.before-2.ensures
    ∙ c.in_default.ensures.behind _ ∙ c.in-None.ensures.behind _)
