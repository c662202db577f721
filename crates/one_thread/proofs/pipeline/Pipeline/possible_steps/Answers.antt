-- There is room for all of them.
use Rattle.std.proofs.lemmas.Grind.{common_steps}
use Rattle.std.proofs.Common.{arith}
use Rattle.one_thread.proofs.Inside.{are_inside, window_room}
use Rattle.one_thread.proofs.pipeline.Pipeline.possible_steps.Goals as goal

pub push_runs-requires : goal.push_runs-requires
push_runs-requires c = grind (arith, common_steps, window_room)

pub push_loads-requires-clause-inside : goal.push_loads-requires-clause-inside
push_loads-requires-clause-inside c = are_inside c.args.self.now c.requires

pub push_loads-requires-clause-room : goal.push_loads-requires-clause-room
push_loads-requires-clause-room c = grind (arith, common_steps, window_room)

pub push_retirement-requires : goal.push_retirement-requires
push_retirement-requires c = grind (arith, common_steps, window_room)
