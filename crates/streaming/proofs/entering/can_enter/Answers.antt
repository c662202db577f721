use Rattle.std.proofs.lemmas.Grind.{common_steps}
use Rattle.std.proofs.Common.{◌≡◌, ◌<◌, true, arith, true≢false}
use Rattle.streaming.specs.Flow.{CanEnter}
use Rattle.one_thread.specs.Window.{reaches_memory}
use Rattle.streaming.proofs.Completions.{stations_long}
use Rattle.streaming.proofs.entering.can_enter.Goals.{In-Some, else-is_access-via-then-is_access+else-unit-flow, else-is_access-via-else-is_access}
use Rattle.streaming.proofs.entering.can_enter.Goals as goal

can : (c : In-Some) → (reaches_memory c.in-Some.instr.now.op ≡ true → c.args.flow.now.accesses < c.args.unit.now.queue) → CanEnter c.args.unit.now c.args.flow.now
can c free = grind (arith, common_steps, stations_long)

pub returns-then-is_plain : goal.returns-then-is_plain
returns-then-is_plain c t = grind (arith, common_steps, can, true≢false)

pub returns : goal.returns
returns c t = grind (arith, common_steps, can, else-is_access-via-then-is_access+else-unit-flow, else-is_access-via-else-is_access, true≢false)
