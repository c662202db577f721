use Rattle.std.proofs.Common.{ap, ◌∙◌}
use Rattle.front.proofs.Fronts.{still_front}
use Rattle.front.proofs.dispatcher.Front.look.Goals as goal

pub invariant_of-self : goal.invariant_of-self
invariant_of-self g c =
    still_front c.args.core.now c.self.inside.program.now c.self.inside.seat c.look.new.seat c.self.inside.path c.self.inside.creators.counted c.self.inside.rested
    (ap (λ z. z.core) c.self.view_is ∙ c.requires.core) c.self.invariant c.look.ensures.kept c.look.ensures.history
