use Rattle.std.proofs.Common.{◌<◌, ap, ◌∙◌, sym, subst}
use Rattle.hints.specs.Hinted.{TheHints}
use Rattle.hints.proofs.Moves.{learns, pushes}
use Rattle.hints.proofs.queue.Hints.push.Goals as goal

pub push_as-requires-clause-rule : goal.push_as-requires-clause-rule
push_as-requires-clause-rule g c =
    let ring = sym (ap (λ (h : TheHints). h.ring) c.self.view_is) ∙ c.self.invariant.0 in
    (pushes _ _ _ _ _ (subst (λ n. c.args.station < n) ring c.requires.station), learns _ _ _)
