use Rattle.std.proofs.Common.{◌≡◌, ◌≤◌, ◌+◌, ◌++◌}
use Rattle.arrayvec.specs.ArrayVec.{array_vec_len}
use Rattle.one_thread.specs.Steps.{loads_of}
use Rattle.one_thread.proofs.pipeline.Pipeline.push_loads.Given as goal

abbrev pub invariant-loop-at : goal.invariant-loop-at
invariant-loop-at l =
    record {
      items : l.steps.items ≡ l.initial.steps.items ++ loads_of l.ahead.registers l.ahead.memory l.self.window l.at;
      len : array_vec_len l.steps ≤ array_vec_len l.initial.steps + l.at;
    }
