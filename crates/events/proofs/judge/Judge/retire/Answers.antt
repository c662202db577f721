use Rattle.std.proofs.Common.{rules, ◌≡◌, Some}
use Rattle.std.specs.Prelude.{IfSome}
use Rattle.events.specs.Told.{IsRetiring}
use Rattle.events.proofs.Follow.{if_err, on_ok, refuses_as, refuses_state, retires_named, retiring_named, retiring_told, stays}
use Rattle.events.proofs.judge.Judge.retire.Goals as goal

pub returns-in-Ok-clause-ok : goal.returns-in-Ok-clause-ok
returns-in-Ok-clause-ok c =
    let named : IfSome c.args.who (λ q. q ≡ c.in-Some.who) = search rules in
    on_ok c.has_left.result _ _
    (λ _. retires_named c.args.self.now.unit c.leave.new.self.unit c.in-Some.who c.args.who c.in-Ok.ensures.ok named) c.has_left.ensures.ok

pub returns-in-Ok-clause-err : goal.returns-in-Ok-clause-err
returns-in-Ok-clause-err c =
    let named : IfSome c.args.who (λ q. q ≡ c.in-Some.who) = search rules in
    if_err c.has_left.result _ _
    (λ why t. refuses_state c.args.self.now.unit c.leave.new.self.unit (IsRetiring c.args.who) c.in-Ok.ensures.ok.told why c.in-Ok.ensures.ok.follows
    (retiring_told c.in-Some.who c.args.who c.in-Ok.ensures.ok.told named c.in-Ok.ensures.ok.is) t.0 t.1) c.has_left.ensures.err

pub returns-in-Err-clause-err : goal.returns-in-Err-clause-err
returns-in-Err-clause-err c =
    let named : IfSome c.args.who (λ q. q ≡ c.in-Some.who) = search rules in
    refuses_as c.args.self.now.unit c.args.self.now.unit c.leave.new.self.unit c.in-Err.why (IsRetiring (Some c.in-Some.who)) (IsRetiring c.args.who)
    (stays c.args.self.now.unit) c.in-Err.ensures.err (retiring_named c.in-Some.who c.args.who named)
