use Rattle.std.proofs.Common.{rules, ◌≡◌, ◌+◌, ◌++◌, ◌∷◌, [], ap, sym, ◌∙◌, subst}
use Rattle.std.specs.Prelude.{slice_index, slice_set}
use Rattle.replay.specs.Dropping.{IsDropped, WaitsForKept}
use Rattle.replay.specs.Numbered.{Numbered}
use Rattle.replay.specs.declared.tenant.Tenant.{Tenant as Held}
use Rattle.replay.specs.Settlement.{AreUses, IsSettled}
use Rattle.replay.proofs.Counts.{uses_add}
use Rattle.replay.proofs.Dropped.{dropped_push}
use Rattle.replay.proofs.Settlement.{settled_push}
use Rattle.replay.proofs.unit.Unit.add.Goals as goal

pub invariant_of-self-2 : goal.invariant_of-self-2
invariant_of-self-2 c =
    let u = c.know.new.self in
    let h = c.args.tenant in
    let is : c.uses_of-uses.result ≡ slice_index u.uses.items h.station =
    c.uses_of-uses.ensures.value ∙ sym (u.counts h.station) in
    let items : c.push.new.self.items ≡ u.tenants.items ++ h ∷ [] = search rules in
    let uses : c.set.new.self.items ≡ slice_set u.uses.items h.station (c.uses_of-uses.result + 1) = c.set.ensures.items in
    let waits : WaitsForKept u.tenants.items u.tenants.from h =
    subst (λ (t : Numbered Held). WaitsForKept t.items t.from h) (sym c.know.ensures.tenants) c.requires.waits in
    record {
      settles = subst (λ hs. IsSettled u.program.now hs u.settled) (sym items) (settled_push u.program.now u.tenants.items u.settled h u.settles);
      counts = subst (λ hs. AreUses hs c.set.new.self.items) (sym items)
          (subst (AreUses (u.tenants.items ++ h ∷ [])) (sym uses)
          (uses_add u.tenants.items u.uses.items h (c.uses_of-uses.result + 1) u.counts c.in_ok-know.ensures.there (ap (λ n. n + 1) is)));
      drops = subst (λ n. IsDropped c.push.new.self.items n u.settled.upto) (sym c.push.ensures.from)
          (subst (λ hs. IsDropped hs u.tenants.from u.settled.upto) (sym items)
          (dropped_push u.tenants.items u.tenants.from u.settled.upto h u.drops u.settles.within waits));
    }
