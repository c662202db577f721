use Rattle.std.proofs.lemmas.Grind.{common_steps}
use Rattle.std.proofs.Common.{◌≡◌, Some, arith, true≢false}
use Rattle.instructions.specs.Programs.{instr_at}
use Rattle.streaming.proofs.Completions.{stations_long}
use Rattle.streaming.proofs.entering.upcoming.Goals.{After-is_access, else-is_access-via-then-is_access+else-unit-flow, else-is_access-via-else-is_access}
use Rattle.streaming.proofs.entering.upcoming.Goals as goal

-- Where the next instruction stands
there : (c : After-is_access) → instr_at c.args.unit.now.program.now c.args.flow.now.future.pc ≡ Some c.in_ok-instr.instr.now
there c = grind (arith, common_steps)

pub returns : goal.returns
returns c = grind (arith, common_steps, stations_long, there, else-is_access-via-then-is_access+else-unit-flow, else-is_access-via-else-is_access, true≢false)
