use Rattle.std.proofs.Common.{◌≡◌, ◌∙◌, ◌≤◌, ◌<◌, sym, subst, arith}
use Rattle.lockstep.specs.declared.stepping.Answer.TheVariants.{Went}
use Rattle.lockstep.specs.Many.{HasRunMany, many_over}
use Rattle.lockstep.specs.Step.{IsStepped, machine_state, step_over}
use Rattle.lockstep.proofs.ManySteps.{all_made, stopped, went_on}
use Rattle.lockstep.proofs.stepping.run_many.Goals as goal

pub steps-preserved : goal.steps-preserved
steps-preserved c =
    let s = machine_state c.steps.registers c.steps.memory c.steps.pc in
    let new = c.step.new in
    let step = subst (λ a. IsStepped s a new.registers new.memory new.pc (step_over c.args.text.now s)) c.in-Went.is c.step.ensures in
    let went = went_on c.args.text.now c.args.steps.now c.steps.done s new.registers new.memory new.pc c.steps-test.true c.steps.invariant.memory step in
    record {
      kept = c.steps.invariant.kept;
      below = omega (arith, c.steps-test.true);
      memory = went.small;
      ahead = c.steps.invariant.ahead ∙ went.ahead;
    }

pub returns-in_default : goal.returns-in_default
returns-in_default c =
    let s = machine_state c.steps.registers c.steps.memory c.steps.pc in
    let new = c.step.new in
    subst (HasRunMany c.step.result new.registers new.memory new.pc c.steps.done) (sym c.steps.invariant.ahead)
    (stopped c.args.text.now c.args.steps.now c.steps.done s c.step.result new.registers new.memory new.pc c.steps-test.true c.in_default.not-Went c.step.ensures)

pub returns : goal.returns
returns c =
    let s = c.steps in
    let all = many_over c.args.text.now c.args.steps.now (machine_state c.args.registers.now c.args.memory.now c.args.pc.now) in
    subst (λ n. HasRunMany Went s.registers s.memory s.pc n all) (sym s.invariant.kept)
    (subst (HasRunMany Went s.registers s.memory s.pc c.args.steps.now) (sym s.invariant.ahead)
    (all_made c.args.text.now c.args.steps.now s.done s.registers s.memory s.pc s.invariant.below (omega (arith, c.steps-test.false))))
