use Rattle.std.proofs.Common.{◌≡◌, length}
use Rattle.checker.specs.Reach.{HavePaths, HavePathsTo}
use Rattle.checker.proofs.reach.reached.Given as goal

abbrev pub invariant-loop : goal.invariant-loop
invariant-loop l = record {
  size : length l.reached.items ≡ length l.program.code;
  marked : HavePaths l.paths l.program l.reached.items;
  listed : HavePathsTo l.paths l.program l.next.items;
}
