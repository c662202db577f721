use Rattle.std.proofs.Common.{◌≤◌, ap, sym, ◌∙◌, subst}
use Rattle.std.specs.Prelude.{slice_set}
use Rattle.replay.specs.Numbered.{Numbered}
use Rattle.replay.specs.Tails.{dropped}
use Rattle.replay.proofs.Tails.{set_after}
use Rattle.replay.proofs.tail.Tail.set.Goals as goal

pub returns-clause-items : goal.returns-clause-items
returns-clause-items g c =
    sym (set_after (dropped c.self.inside.past) c.self.inside.kept.items c.self.inside.from c.args.at c.args.item c.self.invariant.0
    (subst (λ (n : Numbered g.row.T.Denot). n.from ≤ c.args.at) (sym c.self.view_is) c.requires.from))
    ∙ ap (λ (n : Numbered g.row.T.Denot). slice_set n.items c.args.at c.args.item) c.self.view_is
