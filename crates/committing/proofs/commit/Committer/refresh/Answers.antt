use Rattle.std.proofs.Common.{◌∙◌}
use Rattle.committing.proofs.CommitDeeds.{loaded_done, not_loaded}
use Rattle.committing.proofs.Committers.{counted_kept, counted_load, stays}
use Rattle.committing.proofs.commit.Committer.refresh.Goals as goal

pub invariant_of-self : goal.invariant_of-self
invariant_of-self g c =
    let old = c.self.inside.back in
    let new = c.refresh.new.self in
    let same = c.refresh.ensures.kept in
    let kept = not_loaded c.args.shared.now.core.now old.by old.seen new.seen c.refresh.result c.refresh.ensures.reply c.in_default.not-Loaded in
    let counted = counted_kept g.K.Bounds.counts old new same.state same.by c.self.inside.count c.self.invariant.counted kept in
    stays c.self.invariant same.state same.ended counted

pub invariant_of-self-2 : goal.invariant_of-self-2
invariant_of-self-2 g c =
    let old = c.self.inside.back in
    let new = c.refresh.new.self in
    let core = c.args.shared.now.core.now in
    let same = c.in-Loaded.ensures.kept in
    let one = loaded_done core.program core.sizes old.by old.seen new.seen c.in-Loaded.station c.in-Loaded.tag c.in-Loaded.value c.in-Loaded.ensures.reply in
    let counted = counted_load g.K.Bounds.counts old new same.state same.by c.self.inside.count c.add.new.seat
    c.self.invariant.counted one (c.add.ensures.of ∙ c.args.shared.now.state.now.counts_are) c.add.ensures.shares in
    stays c.self.invariant same.state same.ended counted
