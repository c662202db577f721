use Rattle.std.proofs.Common.{ap, ◌∙◌, subst}
use Rattle.inorder.specs.Callers.{GoesOn as HasNoStop}
use Rattle.back.specs.Backs.{TheBack, unit_in}
use Rattle.back.specs.Kept.{BackIsKept}
use Rattle.back.proofs.Leaving.{no_stop}
use Rattle.back.proofs.backs.Back.leave.Goals as goal

pub returns-clause-no_stop : goal.returns-clause-no_stop
returns-clause-no_stop g c =
    let b = c.self.inside in
    let ended = ap (λ (s : TheBack). s.ended) c.self.view_is ∙ c.requires.not_ended in
    let k = subst (λ e. BackIsKept g.J.OfProgram.program b.seat b.committed b.low b.head e b.publisher) ended c.self.invariant in
    subst (λ (s : TheBack). HasNoStop (unit_in s.core s.seen)) c.self.view_is (no_stop g.J.OfProgram.program b.committed b.low b.head b.publisher b.seat k)
