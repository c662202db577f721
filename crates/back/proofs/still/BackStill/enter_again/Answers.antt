use Rattle.std.proofs.Common.{◌∙◌, sym, ap}
use Rattle.back.specs.Stills.{TheStillBack, head_at}
use Rattle.back.proofs.still.BackStill.enter_again.Goals as goal

pub enter_at-requires-clause-head : goal.enter_at-requires-clause-head
enter_at-requires-clause-head g c =
    c.requires.head ∙ (ap (λ (s : TheStillBack). head_at s.core s.seen) (sym c.self.view_is) ∙ sym c.self.invariant.unit.head_is)
