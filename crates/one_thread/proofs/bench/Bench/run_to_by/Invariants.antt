use Rattle.std.proofs.Common.{◌≡◌, ℕ}
use Rattle.one_thread.specs.Changes.{run_from}
use Rattle.one_thread.specs.Choices.{AreTurnsBy}
use Rattle.one_thread.proofs.Ends.{left}
use Rattle.one_thread.proofs.bench.Bench.run_to_by.Given as goal

abbrev pub invariant-loop-self : goal.invariant-loop-self
invariant-loop-self g l =
    record {
      program : l.self.pipeline.program ≡ l.fn.self.pipeline.program;
      ends : run_from l.self.pipeline l.limit ≡ run_from l.fn.self.pipeline l.limit;
      turns : ℕ;
      are : AreTurnsBy g.P.Predictor.Predicts g.P.Predictor.Learns g.C.Chooser.Chooses turns l.limit l.fn.self l.fn.chooser l.self l.chooser;
    }

abbrev pub decreases-loop-self : goal.decreases-loop-self
decreases-loop-self g l = left l.limit l.self.pipeline
