use Rattle.std.proofs.Common.{◌<◌, ◌^◌, sym, ap, ◌∙◌, subst, arith}
use Rattle.instructions.specs.Instruction.{width}
use Rattle.instructions.specs.Operations.{AddressIsInside}
use Rattle.instructions.specs.Programs.{instr_at}
use Rattle.own_model.proofs.Issuing.{memory_is}
use Rattle.in_order_issue.proofs.Stepping.{steps}
use Rattle.in_order_issue.proofs.station.OneStation.step.Goals as goal

pub commit-requires-clause-inside : goal.commit-requires-clause-inside
commit-requires-clause-inside c =
    let b = c.args.self.now in
    let u = c.requires.unit in
    subst (AddressIsInside c.outcome-outcome.result (width c.in-Some.instr.op)) (sym (memory_is b.program.now b.state u.unit.tenants u.stands)) c.outcome-outcome.ensures.inside

pub returns-clause-goes : goal.returns-clause-goes
returns-clause-goes c =
    let b = c.args.self.now in
    let small : b.state.committed.pc < 2 ^ 32 = omega (arith, c.pc.ensures, c.pc.type_inv) in
    steps b c.in-Some.instr c.outcome-outcome.result
    (record { is_next = ap (instr_at b.program.now) (sym c.pc.ensures) ∙ sym c.fetch.ensures ∙ c.in-Some.is; small = small; is = sym c.outcome-outcome.ensures.value; word = c.outcome-outcome.ensures.word })
    c.commit.result c.commit.new.self c.commit.ensures
