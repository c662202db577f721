use Rattle.std.proofs.Common.{◌≡◌, ◌++◌, ◌-◌, string_bytes}
use Rattle.counted_io.specs.Counted.{failures_of, known_by}
use Rattle.commit_log.specs.Steps.{HasLogged, end_ahead, log_ahead}
use Rattle.commit_log.proofs.logging.log_blocks.Given as goal

-- the log so far was written but for the block, no call failed, and the run ends as it would have
abbrev pub invariant-steps : goal.invariant-steps
invariant-steps g l =
    record {
      program : l.machine.program ≡ l.fn.machine.program;
      quiet : failures_of l.writer ≡ failures_of l.fn.writer;
      ends : end_ahead l.asked l.machine ≡ end_ahead l.asked l.fn.machine;
      logged : HasLogged (log_ahead l.asked l.fn.machine) (string_bytes l.block ++ log_ahead l.asked l.machine)
          (known_by g.W.Write.contents l.fn.writer) (known_by g.W.Write.contents l.writer);
    }

abbrev pub decreases-steps : goal.decreases-steps
decreases-steps g l = l.asked.limit - l.machine.state.count
