use Rattle.std.proofs.Common.{ℕ, sym, ◌∙◌, subst, rules}
use Rattle.ruu_words.specs.declared.rule.Role.TheVariants.{Back}
use Rattle.station.specs.Answers.{AnswersSettle}
use Rattle.station.specs.Calls.{TheCall, caller}
use Rattle.station.specs.Writeback.{SettleAnswers}
use Rattle.station.proofs.Calls.{given_back, seated_in}
use Rattle.station.proofs.SettleWrites.{settled_seated}
use Rattle.station.proofs.cores.Core.settle.Goals as goal

pub invariant_of-seat : goal.invariant_of-seat
invariant_of-seat c =
    let core = c.args.self.now in
    let s = c.seat.inside.seat in
    let station : ℕ = c.seat.inside.station in
    let over = c.seat.inside.over in
    let t = c.call.inside.seat.now.me in
    let done = c.settle_load-settled in
    let was = seated_in _ c.seat.inside.words.value.key _ _ _ c.args.seat.now core c.seat.view_is c.requires.core Back s.me.0.by station over s.me c.seat.invariant.0 in
    let reply : SettleAnswers core.program core.sizes s.me.0.by s.me.0.seen t.0.seen c.args.station c.args.tag done.result.0 = subst
    (λ (z : TheCall × TheCall). AnswersSettle c.args.station c.args.tag done.result.0 z.0.core (caller z.0) (caller z.1)) (λ i. (c.of-call.ensures i, sym c.call.view_is i)) done.ensures.reply in
    given_back _ c.seat.inside.words.value.key _ _ _ c.args.seat.now core c.seat.view_is c.requires.core Back s.me.0 _ c.of-call.result c.of-call.ensures done.new.self done.ensures.same
    c.call.inside.core.now t c.call.inside.seat.ghost_name c.call.view_is c.call.inside.seat.now.table_id c.call.invariant _ (search rules) station over
    (settled_seated core.program core.sizes s.me.0.by station c.args.station c.args.tag over s.me t done.result.0 was (c.call.invariant.role_is ∙ sym was.role_is)
    (c.call.invariant.slots ∙ sym was.slots) reply)
