use Rattle.std.proofs.Common.{◌≡◌, ◌≤◌, ◌+◌, ◌++◌}
use Rattle.arrayvec.specs.ArrayVec.{array_vec_len}
use Rattle.one_thread.specs.Steps.{runs_of}
use Rattle.one_thread.proofs.pipeline.Pipeline.push_runs.Given as goal

abbrev pub invariant-loop-at : goal.invariant-loop-at
invariant-loop-at l =
    record {
      items : l.steps.items ≡ l.initial.steps.items ++ runs_of l.ahead.registers l.self.window l.at;
      len : array_vec_len l.steps ≤ array_vec_len l.initial.steps + l.at;
    }
