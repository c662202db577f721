use Rattle.std.proofs.Common.{◌∙◌, ◌<◌, Err, ap, arith, string_bytes, subst, sym}
use Rattle.std.proofs.lemmas.Result.{err_from_is_err_and}
use Rattle.inorder.specs.Machine.{step}
use Rattle.commit_log.specs.Steps.{HasLogged, IsLoggedStep, log_ahead}
use Rattle.commit_log.proofs.LogKept.{broke_off, goes_on, is_over, left_as, more_logged, no_room}
use Rattle.commit_log.proofs.logging.log_blocks.Goals as goal

pub returns-in_err-push_step : goal.returns-in_err-push_step
returns-in_err-push_step g c =
    let left = c.from_residual in
    let p = err_from_is_err_and left.result left.ensures.1 in
    no_room g.W.Write.contents _ _ _ _ _ left.result p.0 p.1 p.2 c.steps.invariant.logged c.steps.invariant.quiet

pub returns-in-Some : goal.returns-in-Some
returns-in-Some g c =
    let m = c.steps.machine in
    let asked = c.args.asked.now in
    let less : m.state.count < asked.limit = omega (arith, c.count.ensures, c.steps-test.true) in
    let over = is_over asked m c.push_step.new.machine (string_bytes c.steps.block) (string_bytes c.push_step.new.out) c.in-Some.stop less
    (subst (λ stop. IsLoggedStep asked m c.push_step.new.machine (string_bytes c.steps.block) (string_bytes c.push_step.new.out) stop
    (step m.program m.state)) c.in-Some.is c.in_ok-push_step.ensures) in
    record {
      says = record {
        logged = left_as (log_ahead asked c.args.machine.now) _ _ _ _ over.log c.steps.invariant.logged;
        ends = sym over.ends ∙ ap (λ e. e.0) c.steps.invariant.ends;
      };
      failures = omega (arith, c.steps.invariant.quiet);
    }

pub steps-preserved : goal.steps-preserved
steps-preserved g c =
    let m = c.steps.machine in
    let asked = c.args.asked.now in
    let less : m.state.count < asked.limit = omega (arith, c.count.ensures, c.steps-test.true) in
    let on = goes_on asked m c.push_step.new.machine (string_bytes c.steps.block) (string_bytes c.push_step.new.out) less
    (subst (λ stop. IsLoggedStep asked m c.push_step.new.machine (string_bytes c.steps.block) (string_bytes c.push_step.new.out) stop
    (step m.program m.state)) c.in-None.is c.in_ok-push_step.ensures) in
    let block = c.in_ok-write_full-in-None.ensures in
    record {
      program = on.program ∙ c.steps.invariant.program;
      quiet = omega (arith, block.failures, c.steps.invariant.quiet);
      ends = on.ends ∙ c.steps.invariant.ends;
      logged = more_logged (log_ahead asked c.args.machine.now) _ _ _ _ _ _
          (left_as (log_ahead asked c.args.machine.now) _ _ _ _ on.log c.steps.invariant.logged) block.says;
    }

pub returns-in_err-write_full-in-None : goal.returns-in_err-write_full-in-None
returns-in_err-write_full-in-None g c =
    let left = c.from_residual-in_err-write_full-in-None in
    let p = err_from_is_err_and left.result left.ensures.1 in
    let m = c.steps.machine in
    let asked = c.args.asked.now in
    let less : m.state.count < asked.limit = omega (arith, c.count.ensures, c.steps-test.true) in
    let on = goes_on asked m c.push_step.new.machine (string_bytes c.steps.block) (string_bytes c.push_step.new.out) less
    (subst (λ stop. IsLoggedStep asked m c.push_step.new.machine (string_bytes c.steps.block) (string_bytes c.push_step.new.out) stop
    (step m.program m.state)) c.in-None.is c.in_ok-push_step.ensures) in
    broke_off g.W.Write.contents _ _ _ (log_ahead asked c.args.machine.now) _ _ _
    (λ (it : Unit {0}). HasLogged (string_bytes c.push_step.new.out) (string_bytes c.write_full.new.block)) left.result c.in_err-write_full-in-None.field-0.0 (p.1 ∙ ap Err p.2)
    (left_as (log_ahead asked c.args.machine.now) _ _ _ _ on.log c.steps.invariant.logged) c.steps.invariant.quiet
    c.in_err-write_full-in-None.ensures

pub returns-in_err-push_limit : goal.returns-in_err-push_limit
returns-in_err-push_limit g c =
    let left = c.from_residual-in_err-push_limit in
    let p = err_from_is_err_and left.result left.ensures.1 in
    no_room g.W.Write.contents _ _ _ _ _ left.result p.0 p.1 p.2 c.steps.invariant.logged c.steps.invariant.quiet
