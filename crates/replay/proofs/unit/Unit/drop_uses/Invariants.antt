use Rattle.std.proofs.Common.{◌≡◌}
use Rattle.replay.specs.Lets.{sizes_of}
use Rattle.replay.proofs.unit.Unit.drop_uses.Given as goal

abbrev pub invariant-loop-station : goal.invariant-loop-station
invariant-loop-station l = record {
  tenants : l.self.tenants ≡ l.initial.self.tenants;
  program : l.self.program ≡ l.initial.self.program;
  sizes : sizes_of l.self ≡ sizes_of l.initial.self;
}
