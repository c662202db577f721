use Rattle.std.proofs.Common.{◌≡◌}
use Rattle.replay.specs.Lets.{sizes_of}
use Rattle.replay.proofs.unit.Unit.drop_unasked.Given as goal

abbrev pub invariant-loop-q : goal.invariant-loop-q
invariant-loop-q l = record {
  items : l.self.tenants.items ≡ l.initial.self.tenants.items;
  from : l.self.tenants.from ≡ l._q;
  settled : l.self.settled ≡ l.initial.self.settled;
  program : l.self.program ≡ l.initial.self.program;
  sizes : sizes_of l.self ≡ sizes_of l.initial.self;
}
