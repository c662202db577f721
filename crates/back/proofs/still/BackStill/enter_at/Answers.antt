use Rattle.std.proofs.Common.{◌∙◌, sym, ap, subst}
use Rattle.back.specs.Backs.{committed_in}
use Rattle.back.specs.Stills.{GoesOnForBack, TheStillBack}
use Rattle.back.proofs.Leaving.{entered, same_committed}
use Rattle.back.proofs.still.BackStill.enter_at.Goals as goal

pub invariant_of-result : goal.invariant_of-result
invariant_of-result g c =
    let b = c.self.inside in
    let v = b.given_back.value in
    let w = c.args.seat in
    let goes : GoesOnForBack v.core v.seen w = subst (λ (s : TheStillBack). GoesOnForBack s.core s.seen w) (sym c.self.view_is) c.requires.goes_on in
    entered g.J.OfProgram.program b.state b.waits b.head b.publisher v w c.args.head c.self.invariant goes c.what_is_seen_is_legal.ensures c.requires.head

pub returns-clause-state : goal.returns-clause-state
returns-clause-state g c =
    let b = c.self.inside in
    let v = b.given_back.value in
    let w = c.args.seat in
    let goes : GoesOnForBack v.core v.seen w = subst (λ (s : TheStillBack). GoesOnForBack s.core s.seen w) (sym c.self.view_is) c.requires.goes_on in
    let kept = entered g.J.OfProgram.program b.state b.waits b.head b.publisher v w c.args.head c.self.invariant goes c.what_is_seen_is_legal.ensures c.requires.head in
    same_committed g.J.OfProgram.program b.state b.waits b.head b.publisher v w c.args.head c.self.invariant kept ∙ ap (λ (s : TheStillBack). committed_in s.core s.seen) c.self.view_is
