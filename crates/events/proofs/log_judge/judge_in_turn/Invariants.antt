use Rattle.std.proofs.Common.{take}
use Rattle.events.specs.Items.{events_of}
use Rattle.events.specs.Logs.{AreTaken}
use Rattle.events.proofs.log_judge.judge_in_turn.Given as goal

-- the first events are taken in turn
abbrev pub invariant-loop-item : goal.invariant-loop-item
invariant-loop-item l = AreTaken l.fn.judge.unit (events_of (take l.item-index l.items)) l.judge.unit
