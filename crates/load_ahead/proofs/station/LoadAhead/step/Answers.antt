use Rattle.std.proofs.Common.{length, Ok, Err, sym, ap, ◌∙◌, subst, arith}
use Rattle.instructions.specs.Instruction.{width}
use Rattle.instructions.specs.Operations.{AddressIsInside}
use Rattle.instructions.specs.Programs.{instr_at}
use Rattle.own_model.proofs.Runs.{same_size}
use Rattle.own_model.specs.Runs.{IsFurther, held}
use Rattle.own_model.specs.State.{Executes}
use Rattle.load_ahead.specs.Ahead.{checked}
use Rattle.load_ahead.specs.StandsFor.{StepGoes}
use Rattle.load_ahead.proofs.Turning.{fits, is_next, memory_is, moves, stops}
use Rattle.load_ahead.proofs.station.LoadAhead.step.Goals as goal
use Rattle.load_ahead.proofs.station.LoadAhead.step.Goals.{After-outcome-outcome}

pub commit-requires-clause-inside : goal.commit-requires-clause-inside
commit-requires-clause-inside c =
    let b = c.args.self.now in
    let u = c.requires.unit in
    subst (AddressIsInside c.outcome-outcome.result (width c.in-Some.instr.op)) (sym (memory_is b u.unit u.stands)) c.outcome-outcome.ensures.inside

pub check_load-requires-clause-fits : goal.check_load-requires-clause-fits
check_load-requires-clause-fits c =
    let b = c.args.self.now in
    let u = c.requires.unit in
    let e = c.in_default-commit.ensures in
    fits b u.unit u.stands c.commit.new.self (ap (λ a. length a.committed.memory) e.1 ∙ same_size b.state c.in-Some.instr c.outcome-outcome.result e.0)

executes : (c : After-outcome-outcome) → Executes c.args.self.now.program.now c.args.self.now.state c.in-Some.instr c.outcome-outcome.result
executes c =
    let b = c.args.self.now in
    record {
      is_next = ap (instr_at b.program.now) (sym c.pc.ensures) ∙ sym c.fetch.ensures ∙ c.in-Some.is;
      small = omega (arith, c.pc.ensures, c.pc.type_inv);
      is = sym c.outcome-outcome.ensures.value;
      word = c.outcome-outcome.ensures.word;
    }

pub returns-in-Err-clause-goes : goal.returns-in-Err-clause-goes
returns-in-Err-clause-goes c =
    let b = c.args.self.now in
    let x = executes (goal.at.returns-in-Err-clause-goes c).After-outcome-outcome in
    let e = c.in-Err.ensures in
    subst (λ z. StepGoes (Err c.in-Err.code) b (record b { state = z })) (sym e.1)
    (stops b c.in-Some.instr c.in-Err.code (subst (Executes b.program.now b.state c.in-Some.instr) e.0 x))

pub returns-clause-goes : goal.returns-clause-goes
returns-clause-goes c =
    let b = c.args.self.now in
    let x = executes (goal.at.returns-clause-goes c).After-outcome-outcome in
    let e = c.in_default-commit.ensures in
    subst (StepGoes (Ok tt) b) (sym c.check_load.ensures)
    (subst (λ z. StepGoes (Ok tt) b (checked (record b { state = z }))) (sym e.1) (moves b c.in-Some.instr c.outcome-outcome.result x e.0))

pub returns-clause-next : goal.returns-clause-next
returns-clause-next c =
    let b = c.args.self.now in
    let x = executes (goal.at.returns-clause-next c).After-outcome-outcome in
    let e = c.in_default-commit.ensures in
    subst (λ z. IsFurther (held b.ahead) b.state z.state) (sym c.check_load.ensures)
    (subst (λ z. IsFurther (held b.ahead) b.state (checked (record b { state = z })).state) (sym e.1) (is_next b c.in-Some.instr c.outcome-outcome.result x e.0))
