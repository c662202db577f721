use Rattle.std.proofs.Common.{sym, subst}
use Rattle.std.specs.Prelude.{IfErr, IfOk}
use Rattle.events.specs.Denied.{Denies}
use Rattle.events.specs.Told.{Begins, Refuses}
use Rattle.events.proofs.judge.Judge.event.Goals as goal

pub returns-in-Let-clause-err : goal.returns-in-Let-clause-err
returns-in-Let-clause-err c =
    subst (λ e. IfOk c.dispatch.result (λ answer. IfErr answer (λ why. Refuses c.args.self.now.unit (Begins e) why c.dispatch.new.self.unit)))
    (sym c.in-Let.is) c.dispatch.ensures.err

pub returns-in-Let-clause-denied : goal.returns-in-Let-clause-denied
returns-in-Let-clause-denied c =
    subst (λ e. IfOk c.dispatch.result (λ answer. IfErr answer (Denies c.args.self.now.unit e c.dispatch.new.self.unit)))
    (sym c.in-Let.is) c.dispatch.ensures.denied
