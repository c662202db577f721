use Rattle.std.proofs.Common.{◌≡◌, ◌+◌, ap, sym, ◌∙◌, arith}
use Rattle.replay.specs.declared.settled.Settled.{Settled}
use Rattle.replay.proofs.Dropped.{dropped_later}
use Rattle.replay.proofs.Settlement.{settled_squashed}
use Rattle.replay.proofs.unit.Unit.settle_next.Goals as goal

pub invariant_of-self : goal.invariant_of-self
invariant_of-self c = record {
  settles =
      settled_squashed c.args.self.now.program.now c.args.self.now.tenants.items c.args.self.now.settled c.skip.new.self c.in-Some.tenant
      c.args.self.now.settles (sym c.kept.ensures.is ∙ c.in-Some.is) c.in-Squashed.is c.skip.ensures;
  counts = c.args.self.now.counts;
  drops =
      dropped_later c.args.self.now.tenants.items c.args.self.now.tenants.from c.args.self.now.settled.upto c.skip.new.self.upto c.args.self.now.drops
      (let more : c.skip.new.self.upto ≡ c.args.self.now.settled.upto + 1 = ap (λ (s : Settled). s.upto) c.skip.ensures in omega arith);
}
