use Rattle.std.proofs.Common.{[], ◌∷◌}
use Rattle.inorder.specs.declared.history.Event.TheVariants.{Refuses}
use Rattle.inorder.specs.declared.history.Refusal.TheVariants.{Over}
use Rattle.ruu_words.specs.Kinds.{Tells}
use Rattle.station.proofs.Adding.{adds_these}
use Rattle.station.proofs.retirement.Call+BackPart.retire_from.Goals as goal

pub returns-then-over : goal.returns-then-over
returns-then-over c =
    let v = c.args.self.now in
    let g = c.tell_over.ensures.grows in
    record {
      same = c.tell_over.ensures.same;
      reply = adds_these v.core.program v.core.sizes v.view.by v.view c.tell_over.new.self.view (Tells v.core.program v.core.sizes Over) (Refuses Over ∷ []) g g.kind.added;
      head = tt;
    }

pub returns : goal.returns
returns c = c.retire_head.ensures
