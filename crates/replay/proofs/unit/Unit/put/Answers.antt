use Rattle.std.proofs.Common.{◌≡◌, sym, subst}
use Rattle.std.specs.Prelude.{slice_set}
use Rattle.replay.specs.Dropping.{IsDropped}
use Rattle.replay.specs.Settlement.{AreUses, IsSettled}
use Rattle.replay.proofs.Counts.{uses_set}
use Rattle.replay.proofs.Dropped.{dropped_set}
use Rattle.replay.proofs.Settlement.{settled_set}
use Rattle.replay.proofs.unit.Unit.put.Goals as goal

pub invariant_of-self : goal.invariant_of-self
invariant_of-self c =
    let u = c.args.self.now in
    let hs = u.tenants.items in
    let who = c.args.who in
    let h = c.args.tenant in
    let items : c.set.new.self.items ≡ slice_set hs who h = c.set.ensures.items in
    record {
      settles = subst (λ ks. IsSettled u.program.now ks u.settled) (sym items)
          (settled_set u.program.now hs u.settled u.tenants.from who h u.settles c.requires);
      counts = subst (λ ks. AreUses ks u.uses.items) (sym items) (uses_set hs u.uses.items who h u.counts c.requires.there c.requires.station);
      drops = subst (λ n. IsDropped c.set.new.self.items n u.settled.upto) (sym c.set.ensures.from)
          (subst (λ ks. IsDropped ks u.tenants.from u.settled.upto) (sym items)
          (dropped_set u.program.now hs u.tenants.from u.settled.upto who h u.drops c.requires));
    }
