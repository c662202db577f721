use Rattle.std.proofs.Common.{[], ap, ◌∙◌, subst, arith}
use Rattle.std.specs.Prelude.{unwrap_or}
use Rattle.instructions.specs.Instruction.{fixed_next}
use Rattle.instructions.specs.Programs.{Program, address}
use Rattle.instructions.specs.declared.op.Half.TheVariants.{Low}
use Rattle.client.specs.Chains.{IsSecondOutcome}
use Rattle.client.proofs.Chained.{HasLetFirst, comes_to, may_ask_now, may_let_now, ready_behind, ready_now}
use Rattle.client.proofs.SetUp.{nothing_done, set_up}
use Rattle.client.proofs.chain.second_outcome.Goals.{After-unwrap_or-predicted}
use Rattle.client.proofs.chain.second_outcome.Goals as goal

begun : (c : After-unwrap_or-predicted) → HasLetFirst c.in_ok-core.core c.unwrap_or-predicted.result c.let_next-tag.new.seats c.let_next-tag.result
begun c =
    let P = c.args.program.now in
    let config = c.args.config.now in
    let core = c.in_ok-core.core in
    let seats = c.in_ok-core.seats in
    let new = c.in_ok-core.ensures in
    let behind = c.unwrap_or-predicted.ensures ∙ ap (λ o. unwrap_or o 0) (c.fixed_next-behind.ensures ∙ ap (λ i. fixed_next i Low (address 1)) c.instr.ensures) in
    record {
      set = set_up P config core seats new c.requires
          (omega (arith, c.ring.ensures.value, c.ring.ensures.least)) (omega (arith, c.queue.ensures.value, c.queue.ensures.least))
          (omega (arith, c.first_tag.ensures.value, c.first_tag.ensures.most)) c.unwrap_or-predicted.result c.unwrap_or-predicted.type_inv behind;
      lets = c.let_next-tag.ensures.done [] (nothing_done P config core seats new);
    }

pub let_next-second_tag-requires-clause-may : goal.let_next-second_tag-requires-clause-may
let_next-second_tag-requires-clause-may c = may_let_now (begun (goal.at.let_next-second_tag-requires-clause-may c).After-unwrap_or-predicted)

pub ask_next-requires-clause-may : goal.ask_next-requires-clause-may
ask_next-requires-clause-may c =
    may_ask_now (begun (goal.at.ask_next-requires-clause-may c).After-unwrap_or-predicted) c.let_next-second_tag.ensures.done c.a_let_can_be_asked.ensures

pub work_at-requires-clause-ready : goal.work_at-requires-clause-ready
work_at-requires-clause-ready c =
    ready_now (begun (goal.at.work_at-requires-clause-ready c).After-unwrap_or-predicted) c.let_next-second_tag.ensures.done c.ask_next.ensures.done

pub work_at-outcome-requires-clause-ready : goal.work_at-outcome-requires-clause-ready
work_at-outcome-requires-clause-ready c =
    let one = begun (goal.at.work_at-outcome-requires-clause-ready c).After-unwrap_or-predicted in
    ready_behind one c.let_next-second_tag.ensures.done c.ask_next.ensures.done c.work_at.ensures.done one.set.chain.makes.1

pub returns : goal.returns
returns c =
    let one = begun (goal.at.returns c).After-unwrap_or-predicted in
    subst (λ (p : Program). IsSecondOutcome p c.work_at-outcome.result) c.in_ok-core.ensures.program
    (λ v makes. comes_to one c.let_next-second_tag.ensures.done c.ask_next.ensures.done c.work_at.ensures.done makes c.work_at-outcome.ensures.done)
