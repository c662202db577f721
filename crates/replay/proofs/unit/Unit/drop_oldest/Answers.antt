use Rattle.std.proofs.Common.{◌≡◌, ◌+◌, sym, subst, arith}
use Rattle.replay.specs.Dropping.{IsDropped}
use Rattle.replay.specs.Settlement.{AreUses, IsSettled}
use Rattle.replay.proofs.Dropped.{dropped_less}
use Rattle.replay.proofs.unit.Unit.drop_oldest.Goals as goal

pub invariant_of-self : goal.invariant_of-self
invariant_of-self c =
    let u = c.args.self.now in
    let within = c.requires.dropped.within in
    let inside = u.settles.within in
    let more = c.requires.more in
    let next : c.drop_first.new.self.from ≡ u.tenants.from + 1 = c.drop_first.ensures.from (omega arith) in
    record {
      settles = subst (λ hs. IsSettled u.program.now hs u.settled) (sym c.drop_first.ensures.items) u.settles;
      counts = subst (λ hs. AreUses hs u.uses.items) (sym c.drop_first.ensures.items) u.counts;
      drops = subst (λ hs. IsDropped hs c.drop_first.new.self.from u.settled.upto) (sym c.drop_first.ensures.items)
          (dropped_less u.tenants.items c.args.unasked c.drop_first.new.self.from u.settled.upto c.requires.dropped (omega arith));
    }

pub returns-clause-from : goal.returns-clause-from
returns-clause-from c =
    let u = c.args.self.now in
    let within = c.requires.dropped.within in
    let inside = u.settles.within in
    let more = c.requires.more in
    c.drop_first.ensures.from (omega arith)
