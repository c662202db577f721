use Rattle.std.proofs.Common.{◌≡◌, take}
use Rattle.streaming.specs.Flow.{in_order, window_of}
use Rattle.streaming.specs.Reopened.{reopened}
use Rattle.streaming.proofs.streaming.restores.Given as goal

abbrev pub invariant-loop-i : goal.invariant-loop-i
invariant-loop-i l = l.unit ≡ record (in_order l.fn.unit l.flow) { window = take l.i (reopened l.from (window_of l.fn.unit l.flow)) }
