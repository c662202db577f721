use Rattle.std.proofs.Common.{◌≡◌, ◌<◌, length, sym, ap, ◌∙◌, subst, arith}
use Rattle.std.specs.Prelude.{unwrap_or}
use Rattle.instructions.specs.Instruction.{fixed_next}
use Rattle.instructions.specs.Programs.{Program, instr_of, text_start}
use Rattle.instructions.specs.declared.op.Half.TheVariants.{Low}
use Rattle.inorder.specs.Replies.{last_tag}
use Rattle.inorder.specs.Unit.{Sizes}
use Rattle.client.specs.Works.{IsFirstOutcome}
use Rattle.client.proofs.First.{first_is_right, may_let_first, predicts}
use Rattle.client.proofs.drive.first_outcome.Goals as goal

pub work-worked-requires-clause-may : goal.work-worked-requires-clause-may
work-worked-requires-clause-may c =
    let core = c.in_ok-core.core in
    let made = c.in_ok-core.ensures in
    let predicted = c.unwrap_or-predicted.result in
    let code : 0 < length core.program.code = subst (λ (p : Program). 0 < length p.code) (sym made.program) c.requires in
    let ring : 0 < core.sizes.ring = subst (λ (z : Sizes). 0 < z.ring) (sym made.sizes) (omega (arith, c.ring.ensures.value, c.ring.ensures.least)) in
    let queue : 0 < core.sizes.queue = subst (λ (z : Sizes). 0 < z.queue) (sym made.sizes) (omega (arith, c.queue.ensures.value, c.queue.ensures.least)) in
    let tag : core.sizes.first_tag < last_tag = subst (λ (z : Sizes). z.first_tag < last_tag) (sym made.sizes) (omega (arith, c.first_tag.ensures.value, c.first_tag.ensures.most)) in
    let first : c.fixed_next-first.result ≡ fixed_next (instr_of core.program 0) Low text_start = c.fixed_next-first.ensures
    ∙ ap (λ i. fixed_next i Low text_start) (c.instr.ensures ∙ ap (λ (p : Program). instr_of p 0) (sym made.program)) in
    let next = predicts (fixed_next (instr_of core.program 0) Low text_start) predicted (c.unwrap_or-predicted.ensures ∙ ap (λ o. unwrap_or o 0) first) in
    may_let_first core.program core.sizes c.in_ok-core.seats.front.seen predicted made.front_seen code ring queue tag c.unwrap_or-predicted.type_inv next

pub returns : goal.returns
returns c =
    let core = c.in_ok-core.core in
    let made = c.in_ok-core.ensures in
    let worked = c.work-worked.result in
    let found = first_is_right core.program core.sizes c.in_ok-core.seats.front.seen c.unwrap_or-predicted.result worked made.front_seen c.work-worked.ensures.worked.right in
    subst (λ (p : Program). IsFirstOutcome p worked.outcome) made.program found
