use Rattle.std.proofs.Common.{[], ap, sym, subst}
use Rattle.events.specs.Following.{Follows}
use Rattle.events.proofs.Follow.{stays, untold_mend}
use Rattle.events.proofs.judge.Judge.mend_unsaid.Goals as goal

pub returns-in-Ok : goal.returns-in-Ok
returns-in-Ok c =
    untold_mend c.args.self.now.unit c.act.new.self c.args.who c.in-Ok.ensures.ok c.in-Ok.ensures.done c.in-Ok.ensures.length
    (ap (λ p. p.now) c.in-Ok.ensures.program) c.in-Ok.ensures.sizes

pub returns-in-Err : goal.returns-in-Err
returns-in-Err c = subst (λ w. Follows c.args.self.now.unit [] w) (sym c.in-Err.ensures.same) (stays c.args.self.now.unit)
