use Rattle.std.proofs.Common.{◌≤◌, ◌+◌, [], length, sym, ap, ◌∙◌, subst}
use Rattle.instructions.specs.Instruction.{width}
use Rattle.inorder.specs.History.{back}
use Rattle.inorder.specs.OneHistory.{Adds}
use Rattle.inorder.specs.Machine.{State}
use Rattle.inorder.proofs.SettledMemory.{length_memory}
use Rattle.back.specs.Backs.{unit_in}
use Rattle.back.specs.Port.{station_behind}
use Rattle.back.proofs.Answering.{committed_same, head_same}
use Rattle.back.proofs.TrialFacts.{NobodyUntil, TrialFacts, facts_of, has_loaded, is_held, nobody_until, place_of, settles, stale_then, still_then, waits_no_more, was_squashed, woken_then}
use Rattle.back.proofs.port.try_load.Goals.{After-answer, After-find_waiting}
use Rattle.back.proofs.port.try_load.Goals as goal

-- The search for a load adds nothing
searched : (c : After-find_waiting) → Adds c.args.core.now.program c.args.core.now.sizes back c.args.seat.now.seen c.find_waiting.new.seat.seen []
searched c = subst (λ x. Adds c.args.core.now.program c.args.core.now.sizes x c.args.seat.now.seen c.find_waiting.new.seat.seen []) c.requires.by c.find_waiting.ensures.history

pub answer-requires-clause-head_is : goal.answer-requires-clause-head_is
answer-requires-clause-head_is c = c.requires.head_is ∙ sym (head_same _ _ _ _ (searched (goal.at.answer-requires-clause-head_is c).After-find_waiting))

pub answer-requires-clause-state : goal.answer-requires-clause-state
answer-requires-clause-state c = c.requires.state ∙ sym (committed_same _ _ _ _ (searched (goal.at.answer-requires-clause-state c).After-find_waiting))

pub answer-requires-clause-inside : goal.answer-requires-clause-inside
answer-requires-clause-inside c =
    let d = c.args.core.now in
    let l = c.in-Some.load in
    subst (λ n. l.address + width l.op ≤ n) (sym (ap (λ (s : State). length s.memory) c.requires.state ∙ length_memory d.program (unit_in d c.args.seat.now.seen).tenants)) c.in-Some.ensures.inside

-- The load that was found, and what the stores before it have answered
tried : (c : After-answer) → TrialFacts c.args.core.now c.args.seat.now c.find_waiting.new.seat c.answer.new.seat c.wrapped-station.result
    (station_behind c.args.head c.args.core.now.sizes.ring c.args.at) c.in-Some.load
tried c = facts_of c.args.core.now c.args.head c.args.at c.requires.by c.find_waiting.ensures.kept c.find_waiting.ensures.history c.answer.ensures.kept
    c.answer.ensures.history c.wrapped-station.ensures.value c.ring-ring.ensures.value c.in-Some.ensures.some

nobody : (c : After-answer) → NobodyUntil c.args.core.now c.args.seat.now c.answer.new.seat
nobody c = nobody_until c.args.core.now c.find_waiting.ensures.kept c.find_waiting.ensures.history c.find_waiting.ensures.woken
    c.answer.ensures.kept c.answer.ensures.history c.answer.ensures.woken

pub settle-requires-clause-may : goal.settle-requires-clause-may
settle-requires-clause-may c =
    let t = tried (goal.at.settle-requires-clause-may c).After-answer in
    settles t (c.in-Ok.ensures.ok t.waits.p t.waits.asked)

pub returns-in-Settled-clause-reply : goal.returns-in-Settled-clause-reply
returns-in-Settled-clause-reply c =
    let t = tried (goal.at.returns-in-Settled-clause-reply c).After-answer in
    has_loaded t (c.in-Ok.ensures.ok t.waits.p t.waits.asked) c.settle.new.seat c.in-Settled.ensures.reply

pub returns-in-Stale-clause-reply : goal.returns-in-Stale-clause-reply
returns-in-Stale-clause-reply c = was_squashed (tried (goal.at.returns-in-Stale-clause-reply c).After-answer) c.settle.new.seat c.in-Stale.ensures.reply

pub returns-then-is_still-clause-reply : goal.returns-then-is_still-clause-reply
returns-then-is_still-clause-reply c =
    let t = tried (goal.at.returns-then-is_still-clause-reply c).After-answer in
    is_held t c.is_still.new.seat c.is_still.ensures.history (c.in-Err.ensures.err t.waits.p t.waits.asked) (place_of c.args.head c.in-Err.k c.wrapped.ensures.value c.ring-ring.ensures.value)
    (c.is_still.ensures.still c.if-is_still.true)

pub returns-else-is_still-clause-reply : goal.returns-else-is_still-clause-reply
returns-else-is_still-clause-reply c =
    waits_no_more (tried (goal.at.returns-else-is_still-clause-reply c).After-answer) c.is_still.new.seat c.is_still.ensures.history (c.is_still.ensures.gone c.if-is_still.false)

pub returns-in-Settled-clause-woken : goal.returns-in-Settled-clause-woken
returns-in-Settled-clause-woken c = woken_then (nobody (goal.at.returns-in-Settled-clause-woken c).After-answer) c.settle.new.seat c.settle.ensures.woken

pub returns-in-Stale-clause-woken : goal.returns-in-Stale-clause-woken
returns-in-Stale-clause-woken c =
    stale_then (nobody (goal.at.returns-in-Stale-clause-woken c).After-answer) c.settle.new.seat c.wrapped-station.result c.in-Some.load.tag c.in-Stale.ensures.reply c.settle.ensures.woken

pub returns-then-is_still-clause-woken : goal.returns-then-is_still-clause-woken
returns-then-is_still-clause-woken c = still_then (nobody (goal.at.returns-then-is_still-clause-woken c).After-answer) c.is_still.new.seat c.is_still.ensures.history c.is_still.ensures.woken

pub returns-else-is_still-clause-woken : goal.returns-else-is_still-clause-woken
returns-else-is_still-clause-woken c = still_then (nobody (goal.at.returns-else-is_still-clause-woken c).After-answer) c.is_still.new.seat c.is_still.ensures.history c.is_still.ensures.woken
