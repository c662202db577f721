use Rattle.std.proofs.Common.{◌≡◌, ◌<◌, ◌-◌, suc, [], sym, ap, ◌∙◌, subst, arith}
use Rattle.std.specs.List.{AllByRecursion}
use Rattle.instructions.specs.Instruction.{is_access, kind}
use Rattle.inorder.specs.History.{front, unit_of}
use Rattle.inorder.specs.OneHistory.{Adds}
use Rattle.front.specs.Knows.{FrontKnows}
use Rattle.front.proofs.Crowded.{all_in, full_there, room_there}
use Rattle.front.proofs.InQueue.{few_live}
use Rattle.front.proofs.Named.{small_stations}
use Rattle.front.proofs.Stays.{still_knows}
use Rattle.front.proofs.needs.queue_is_full.Goals as goal

pub returns-in_default-clause-reply : goal.returns-in_default-clause-reply
returns-in_default-clause-reply c =
    let few = few_live c.args.core.now.program c.args.core.now.sizes c.args.seat.now.seen c.requires.legal c.args.path.now.records c.args.path.now.base c.requires.knows in
    λ a. omega (arith, few, c.in_default.ensures, c.queue-queue.ensures.value, c.queue-queue.ensures.least)

pub look-seen-requires-clause-station : goal.look-seen-requires-clause-station
look-seen-requires-clause-station c =
    let P = c.args.core.now.program in
    let C = c.args.core.now.sizes in
    let b = c.in-Some.ensures in
    let small = small_stations P C c.args.seat.now.seen c.requires.legal c.args.path.now.records c.args.path.now.base _ c.requires.knows (omega (arith, c.requires.least)) in
    all_in (λ x. x.station < C.ring) b.older c.in-Some.record b.younger (subst (AllByRecursion (λ x. x.station < C.ring)) b.are small)

pub returns-in-Free-clause-reply : goal.returns-in-Free-clause-reply
returns-in-Free-clause-reply c =
    let P = c.args.core.now.program in
    let C = c.args.core.now.sizes in
    let old = c.args.seat.now.seen in
    let h = c.look-seen.new.seat.seen in
    let records = c.args.path.now.records in
    let base = c.args.path.now.base in
    let adds : Adds P C front old h [] = subst (λ i. Adds P C i old h []) c.requires.by c.look-seen.ensures.history in
    let knows : FrontKnows P C (unit_of P C h) records base = still_knows adds c.requires.knows in
    let few = room_there P C h adds.legal records base knows _ c.in-Some.record c.in-Some.ensures c.look-seen.result c.look-seen.ensures.reply c.in-Free.is in
    λ a. omega (arith, few, c.queue-queue.ensures.value, c.queue-queue.ensures.least)

pub returns-clause-reply : goal.returns-clause-reply
returns-clause-reply c =
    let P = c.args.core.now.program in
    let C = c.args.core.now.sizes in
    let old = c.args.seat.now.seen in
    let h = c.look-seen.new.seat.seen in
    let records = c.args.path.now.records in
    let base = c.args.path.now.base in
    let adds : Adds P C front old h [] = subst (λ i. Adds P C i old h []) c.requires.by c.look-seen.ensures.history in
    let knows : FrontKnows P C (unit_of P C h) records base = still_knows adds c.requires.knows in
    let access = ap (λ o. is_access (kind o)) (sym c.op.ensures) ∙ (sym c.is_access.ensures ∙ c.if-not-is_access.false) in
    let whole : suc (c.queue-queue.result - 1) ≡ C.queue = omega (arith, c.queue-queue.ensures.value, c.queue-queue.ensures.least) in (
      access,
      full_there P C h adds.legal records base knows _ c.in-Some.record c.in-Some.ensures c.look-seen.result c.look-seen.ensures.reply
          c.in_default-state.not-Free whole,
    )
