use Rattle.std.proofs.Common.{ℕ, sym, subst, rules}
use Rattle.ruu_words.specs.declared.rule.Role.TheVariants.{Back}
use Rattle.station.specs.Answers.{AnswersRetire}
use Rattle.station.specs.Calls.{TheCall, caller}
use Rattle.station.specs.Retirement.{RetireAnswers}
use Rattle.station.proofs.Backs.{back_on}
use Rattle.station.proofs.Calls.{back_back, seated_in}
use Rattle.station.proofs.Retiring.{is_none, none_retired}
use Rattle.station.proofs.cores.Core.retire.Goals as goal

pub invariant_of-seat-in_default : goal.invariant_of-seat-in_default
invariant_of-seat-in_default c =
    let core = c.args.self.now in
    let P = core.program in
    let C = core.sizes in
    let s = c.seat.inside.seat.me in
    let station : ℕ = c.seat.inside.station in
    let over = c.seat.inside.over in
    let t = c.call.inside.seat.now.me in
    let done = c.retire_from-answer in
    let was = seated_in _ c.seat.inside.words.value.key _ _ _ c.args.seat.now core c.seat.view_is c.requires.core Back s.0.by station over s c.seat.invariant.0 in
    let reply : RetireAnswers P C s.0.by s.0.seen t.0.seen done.result = subst (λ (z : TheCall × TheCall). AnswersRetire done.result z.0.core (caller z.0) (caller z.1)) (λ i.
    (c.of-call.ensures i, sym c.call.view_is i))
    done.ensures.reply in
    let quiet = none_retired P C s.0.by s.0.seen t.0.seen done.result (is_none P C done.result c.in_default.not-Retired) reply in
    back_back _ c.seat.inside.words.value.key _ _ _ c.args.seat.now core c.seat.view_is c.requires.core c.of-call.ensures done.ensures.same c.call.invariant c.call.view_is (search rules)
    station over was.inside (back_on P C s.0.by station over s.0.seen t.0.seen quiet.0 quiet.1.0 quiet.1.1 was.knows c.seat.invariant.1.caller)
