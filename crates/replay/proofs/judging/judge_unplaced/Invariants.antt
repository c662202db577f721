use Rattle.std.proofs.Common.{◌≡◌, ◌≤◌, length}
use Rattle.std.specs.Prelude.{take}
use Rattle.replay.specs.Lets.{sizes_of, unit_of}
use Rattle.replay.specs.Placing.{IsPlacedTo, HasNothingDue}
use Rattle.replay.proofs.judging.judge_unplaced.Given as goal

abbrev pub invariant-loop-n : goal.invariant-loop-n
invariant-loop-n l = record {
  placed : IsPlacedTo l.program (record { ring = l.ring; queue = l.queue; first_tag = 1 }) (take l.n l.steps) (unit_of l.unit);
  quiet : HasNothingDue l.unit.program.now (sizes_of l.unit) (unit_of l.unit);
  program : l.unit.program.now ≡ l.program;
  sizes : sizes_of l.unit ≡ record { ring = l.ring; queue = l.queue; first_tag = 1 };
  few : length l.unit.tenants.items ≤ l.n;
}
