use Rattle.std.proofs.Common.{◌≡◌, ◌≤◌, length}
use Rattle.replay.specs.Lets.{sizes_of}
use Rattle.replay.proofs.unit.Unit.know.Given as goal

abbrev pub invariant-loop-n : goal.invariant-loop-n
invariant-loop-n l = record {
  long : l._n ≤ length l.self.uses.items;
  from : l.self.uses.from ≡ l.initial.self.uses.from;
  tenants : l.self.tenants ≡ l.initial.self.tenants;
  settled : l.self.settled ≡ l.initial.self.settled;
  program : l.self.program ≡ l.initial.self.program;
  sizes : sizes_of l.self ≡ sizes_of l.initial.self;
}
