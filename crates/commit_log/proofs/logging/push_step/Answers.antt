use Rattle.std.proofs.Common.{◌++◌, ◌∙◌, ap, rules, string_bytes}
use Rattle.commit_log.proofs.LogKept.{line_is, went}
use Rattle.commit_log.proofs.logging.push_step.Goals as goal

pub returns-in_ok-push_line-in-Ran : goal.returns-in_ok-push_line-in-Ran
returns-in_ok-push_line-in-Ran c =
    let m = c.args.machine.now in
    went c.args.asked.now m c.step.new.self _ _ _ c.in-Ran.ensures
    (λ t is. c.in_ok-push_line-in-Ran.ensures ∙ ap (λ l. string_bytes c.args.out.now ++ l)
    (line_is c.args.asked.now m.program c.args.program.now m.state t c.step.new.self.state c.pc-pc.result _ c.in-Some.instr c.pc-pc.ensures
    c.in-Some.ensures c.requires.program (search rules) is))
